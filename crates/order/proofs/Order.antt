-- The records in ascending order of code: each is a record, and their strains are the library's in that order. Assumes nothing.
use mathlib.Core.Path.{◌≡◌, ap, ◌∙◌}
use mathlib.Core.List.{List, map, Memᴰ}
use Prim.Native.Nat.{ℕ, ◌<◌}
use native.Mathlib.Omega.{arith}
use lib.ListN.{length, get_or}
use Rattle.std.proofs.lemmas.List.{get_or-map}
use Rattle.ranking.proofs.Places.{mem_get_or, get_or_mem}
use Rattle.ranking.proofs.Sorted.{sort_length, sort_mem, sort_map}
use Rattle.image.specs.Fields.{count_of, code_at}
use Rattle.image.specs.Strains.{Strain, strain_at, strains_of}
use Rattle.image.proofs.Strains.{each_length, each_at}
use Rattle.content.specs.Filing.{by_code}
use Rattle.content.proofs.Filing.{each_map}
use Rattle.order.specs.Key.{numbers_of, order_of}

module _ (xs : List ℕ) where
  -- the numbers are those below the count
  pub number_in_lem : {i : ℕ} → Memᴰ i (numbers_of xs) → i < count_of xs
  number_in_lem {i} m =
      let p = get_or_mem 0 m in
      let h : p.0 < count_of xs = omega (arith, p.1, each_length (λ (k : ℕ). k) 0 (count_of xs)) in
      omega (arith, h, p.2, each_at (λ (k : ℕ). k) 0 (count_of xs) p.0 0 h)

  pub order_length : length (order_of xs) ≡ count_of xs
  unfolding order_of
  order_length = sort_length (code_at xs) (numbers_of xs) ∙ each_length (λ (k : ℕ). k) 0 (count_of xs)

  pub order_in : (i : ℕ) → i < count_of xs → get_or (order_of xs) i 0 < count_of xs
  unfolding order_of
  order_in i h = number_in_lem (sort_mem (code_at xs) (numbers_of xs) (mem_get_or (order_of xs) i 0 (rw order_length h)))

  pub order_strains : map (strain_at xs) (order_of xs) ≡ by_code (strains_of xs)
  unfolding order_of strains_of
  order_strains =
      sort_map (strain_at xs) (λ (s : Strain). s.code) (numbers_of xs)
      ∙ ap by_code (each_map (strain_at xs) (λ (k : ℕ). k) 0 (count_of xs))

  pub order_strain : (i : ℕ) (d : Strain) → i < count_of xs → get_or (by_code (strains_of xs)) i d ≡ strain_at xs (get_or (order_of xs) i 0)
  order_strain i d h = rw (← order_strains) (get_or-map (strain_at xs) (order_of xs) i 0 d (rw order_length h))
