-- The strains of a library in order of rank, and those of them within a radius: how many, which, and in what order. Assumes nothing.
use mathlib.Core.Path.{◌≡◌, refl, sym, ap, ◌∙◌}
use mathlib.Core.List.{List, [], ◌∷◌, ◌++◌, map, append-nil, Memᴰ}
use mathlib.Core.List.Memᴰ
use Prim.Native.Nat.{ℕ, ◌≤◌, ◌<◌}
use native.Mathlib.Omega.{arith}
use lib.IntN.{ℤ}
use lib.ListN.{length, get_or, length-map}
use borrow.Author.Tests.{le-leb, lt-leb}
use Rattle.ranking.specs.Sort.{insert, sort_by}
use Rattle.ranking.specs.Order.{Ascending, Distinct}
use Rattle.ranking.specs.Found.{Found, rank, code_of}
use Rattle.ranking.proofs.Insert.{split, insert_before, insert_after}
use Rattle.ranking.proofs.Ranks.{rank_code}
use Rattle.ranking.proofs.Places.{distinct_get_or}
use Rattle.ranking.proofs.Last.{by_last}
use Rattle.ranking.proofs.Sorted.{sort_append, sort_length, sort_mem, mem_sort, sort_ascending, sort_distinct}
use Rattle.image.specs.Fields.{metric_of, count_of, code_at}
use Rattle.image.specs.Strains.{Strain, strains_of}
use Rattle.image.specs.Library.{Library}
use Rattle.image.proofs.Strains.{strains_length, strain_is}
use Rattle.content.specs.Bytes.{Bytes}
use Rattle.content.proofs.Filing.{library_strains}
use Rattle.walk.specs.Weighed.{weighed}
use Rattle.search.specs.Ranked.{ranked, inside}

-- ---- within a radius

module _ (radius : ℕ) where
  inside_none : inside radius [] ≡ []
  unfolding inside
  inside_none = refl

  inside_yes : (f : Found) (fs : List Found) → f.distance ≤ radius → inside radius (f ∷ fs) ≡ f ∷ inside radius fs
  unfolding inside
  inside_yes f fs h = rw (le-leb f.distance radius h)

  inside_no : (f : Found) (fs : List Found) → radius < f.distance → inside radius (f ∷ fs) ≡ inside radius fs
  unfolding inside
  inside_no f fs h = rw (lt-leb f.distance radius h)

  -- what lies inside is of the list, and within the radius
  pub inside_mem : (fs : List Found) {a : Found} → Memᴰ a (inside radius fs) → Memᴰ a fs × (a.distance ≤ radius)
  unfolding inside
  inside_mem [] {a = a} m = elim m [ ]
  inside_mem (f ∷ fs) {a} m =
      split radius f.distance (λ h. let w = inside_mem fs (rw (inside_no f fs h) at m) in (Memᴰ.tail w.0, w.1))
      (λ h. kept h (inside_mem fs) (rw (inside_yes f fs h) at m))
    where
      kept : f.distance ≤ radius → (Memᴰ a (inside radius fs) → Memᴰ a fs × (a.distance ≤ radius)) → Memᴰ a (f ∷ inside radius fs)
          → Memᴰ a (f ∷ fs) × (a.distance ≤ radius)
      kept h rest (Memᴰ.head e) = (Memᴰ.head e, rw e h)
      kept h rest (Memᴰ.tail n) = let w = rest n in (Memᴰ.tail w.0, w.1)

  -- and all of that
  pub mem_inside : (fs : List Found) {a : Found} → Memᴰ a fs → a.distance ≤ radius → Memᴰ a (inside radius fs)
  mem_inside [] {a = a} x'' h = elim x'' [ ]
  mem_inside (f ∷ fs) (Memᴰ.head e) h = rw (inside_yes f fs (omega (arith, ap (λ (g : Found). g.distance) e))) (Memᴰ.head e)
  mem_inside (f ∷ fs) (Memᴰ.tail m) h =
      split radius f.distance (λ l. rw (inside_no f fs l) (mem_inside fs m h)) (λ l. rw (inside_yes f fs l) (Memᴰ.tail (mem_inside fs m h)))

  module _ {key : Found → ℕ} where
    pub inside_ascending : {fs : List Found} → Ascending key fs → Ascending key (inside radius fs)
    inside_ascending Ascending.none = rw inside_none Ascending.none
    inside_ascending (Ascending.next {x = f} {xs = fs} low up) =
        split radius f.distance (λ h. rw (inside_no f fs h) (inside_ascending up))
        (λ h. rw (inside_yes f fs h) (Ascending.next (λ y m. low y (inside_mem fs m).0) (inside_ascending up)))

    pub inside_distinct : {fs : List Found} → Distinct key fs → Distinct key (inside radius fs)
    inside_distinct Distinct.none = rw inside_none Distinct.none
    inside_distinct (Distinct.next {x = f} {xs = fs} other d) =
        split radius f.distance (λ h. rw (inside_no f fs h) (inside_distinct d))
        (λ h. rw (inside_yes f fs h) (Distinct.next (λ y m. other y (inside_mem fs m).0) (inside_distinct d)))

  pub inside_append : (fs gs : List Found) → inside radius (fs ++ gs) ≡ inside radius fs ++ inside radius gs
  inside_append [] gs = rw inside_none
  inside_append (f ∷ fs) gs =
      split radius f.distance
      (λ h. rw (inside_no f (fs ++ gs) h, inside_no f fs h) (inside_append fs gs))
      (λ h. rw (inside_yes f (fs ++ gs) h, inside_yes f fs h) (ap (λ (hs : List Found). f ∷ hs) (inside_append fs gs)))

  pub inside_all : (fs : List Found) → ((f : Found) → Memᴰ f fs → f.distance ≤ radius) → inside radius fs ≡ fs
  inside_all [] all = inside_none
  inside_all (f ∷ fs) all =
      inside_yes f fs (all f (Memᴰ.head refl)) ∙ ap (λ (hs : List Found). f ∷ hs) (inside_all fs (λ g m. all g (Memᴰ.tail m)))

  -- an element put into a list in order: beyond the radius it adds nothing to what lies inside, and within it is put in there
  module _ (key : Found → ℕ) where
    insert_beyond : (x : Found) (fs : List Found) → radius < x.distance → inside radius (insert key x fs) ≡ inside radius fs
    unfolding insert
    insert_beyond x [] h = inside_no x [] h
    insert_beyond x (f ∷ fs) h =
        split (key x) (key f)
        (λ l. rw (insert_before key x f fs l) (inside_no x (f ∷ fs) h))
        (λ l. rw (insert_after key x f fs l)
        (split radius f.distance
        (λ d. rw (inside_no f (insert key x fs) d, inside_no f fs d) (insert_beyond x fs h))
        (λ d. rw (inside_yes f (insert key x fs) d, inside_yes f fs d) (ap (λ (hs : List Found). f ∷ hs) (insert_beyond x fs h)))))

    -- before all where all keys are higher
    insert_first : (x : Found) (fs : List Found) → ((f : Found) → Memᴰ f fs → key x < key f) → insert key x fs ≡ x ∷ fs
    unfolding insert
    insert_first x [] low = refl
    insert_first x (f ∷ fs) low = insert_before key x f fs (low f (Memᴰ.head refl))

    insert_within : (x : Found) {fs : List Found} → Ascending key fs → x.distance ≤ radius → inside radius (insert key x fs) ≡ insert key x (inside radius fs)
    unfolding insert
    insert_within x Ascending.none h = rw (inside_none, inside_yes x [] h, inside_none)
    insert_within x (Ascending.next {x = f} {xs = fs} low up) h =
        split (key x) (key f)
        (λ l. rw (insert_before key x f fs l)
        (inside_yes x (f ∷ fs) h ∙ sym (insert_first x (inside radius (f ∷ fs)) (λ g m. above l g (inside_mem (f ∷ fs) m).0))))
        (λ l. rw (insert_after key x f fs l)
        (split radius f.distance
        (λ d. rw (inside_no f (insert key x fs) d, inside_no f fs d) (insert_within x up h))
        (λ d. rw (inside_yes f (insert key x fs) d, inside_yes f fs d, insert_after key x f (inside radius fs) l)
        (ap (λ (hs : List Found). f ∷ hs) (insert_within x up h)))))
      where
        above : key x < key f → (g : Found) → Memᴰ g (f ∷ fs) → key x < key g
        above l g (Memᴰ.head e) = omega (arith, ap key e)
        above l g (Memᴰ.tail m) = omega (arith, low g m)

  -- sorted and then picked, or picked and then sorted
  pub inside_sort : (fs : List Found) → inside radius (sort_by rank fs) ≡ sort_by rank (inside radius fs)
  unfolding inside sort_by
  inside_sort =
      by_last (λ (fs : List Found). inside radius (sort_by rank fs) ≡ sort_by rank (inside radius fs))
      (λ fs f e. rw (sort_append rank fs f, inside_append fs (f ∷ []))
      (split radius f.distance
      (λ h. rw (inside_no f [] h, inside_none, append-nil (inside radius fs), ← e) (insert_beyond rank f (sort_by rank fs) h))
      (λ h. rw (inside_yes f [] h, inside_none, sort_append rank (inside radius fs) f, ← e) (insert_within rank f (sort_ascending rank fs) h))))
      refl

-- ---- weighed strains

abbrev strain_code : Strain → ℕ
strain_code s = s.code

-- strains with different codes have different ranks
pub weighed_distinct : (metric : ℕ) (plate : List ℤ) {ss : List Strain} → Distinct (λ (s : Strain). s.code) ss
    → ((s : Strain) → Memᴰ s ss → s.code < 4294967296)
    → Distinct rank (map (weighed metric plate) ss)
unfolding weighed
weighed_distinct metric plate Distinct.none fits = Distinct.none
weighed_distinct metric plate (Distinct.next {x = s} {xs = ss} other d) fits =
    Distinct.next (λ f m e. apart f (Memᴰ.of_map (weighed metric plate) ss m) e) (weighed_distinct metric plate d (λ t m. fits t (Memᴰ.tail m)))
  where
    apart : (f : Found) → (t : Strain) × Memᴰ t ss × (weighed metric plate t ≡ f) → rank (weighed metric plate s) ≡ rank f → ⊥
    apart f w e =
        other w.0 w.1
        (sym (rank_code (weighed metric plate s) (fits s (Memᴰ.head refl)))
        ∙ ap code_of (e ∙ sym (ap rank w.2))
        ∙ rank_code (weighed metric plate w.0) (fits w.0 (Memᴰ.tail w.1)))

-- the codes of a library's strains differ
pub library_codes : {xs : List ℕ} → Library xs → Distinct (λ (s : Strain). s.code) (strains_of xs)
library_codes {xs} l =
    distinct_get_or strain_code (strains_of xs) nobody
    (λ i j h k e. l.layout.codes i j (omega (arith, strains_length xs)) (omega (arith, strains_length xs)) (sym (code_is i h) ∙ e ∙ code_is j k))
  where
    nobody : Strain
    nobody = record { code = 0; profile = [] }

    code_is : (i : ℕ) → i < length (strains_of xs) → (get_or (strains_of xs) i nobody).code ≡ code_at xs i
    code_is i h = ap strain_code (strain_is xs i nobody (omega (arith, strains_length xs)))

-- ---- all strains of a library, in order

module _ (xs : List ℕ) (plate : List ℤ) where
  abbrev weights : List Found
  weights = map (weighed (metric_of xs) plate) (strains_of xs)

  pub ranked_length : length (ranked xs plate) ≡ count_of xs
  unfolding ranked
  ranked_length = sort_length rank weights ∙ length-map (strains_of xs) (weighed (metric_of xs) plate) ∙ strains_length xs

  pub ranked_ascending : Ascending rank (ranked xs plate)
  unfolding ranked
  ranked_ascending = sort_ascending rank weights

  -- they are its strains, each weighed against the plate
  pub ranked_mem : {f : Found} → Memᴰ f (ranked xs plate) → (s : Strain) × Memᴰ s (strains_of xs) × (f ≡ weighed (metric_of xs) plate s)
  unfolding ranked
  ranked_mem m = let w = Memᴰ.of_map (weighed (metric_of xs) plate) (strains_of xs) (sort_mem rank weights m) in (w.0, w.1, sym w.2)

  -- and all of them
  pub mem_ranked : {s : Strain} → Memᴰ s (strains_of xs) → Memᴰ (weighed (metric_of xs) plate s) (ranked xs plate)
  unfolding ranked
  mem_ranked m = mem_sort rank weights (Memᴰ.map (weighed (metric_of xs) plate) m)

  module _ (b : Bytes xs) (l : Library xs) where
    pub ranked_codes : {f : Found} → Memᴰ f (ranked xs plate) → f.code < 4294967296
    unfolding weighed
    ranked_codes m = let w = ranked_mem m in rw w.2 ((library_strains xs b l).code_fits w.1)

    -- each once
    pub ranked_distinct : Distinct rank (ranked xs plate)
    unfolding ranked
    ranked_distinct = sort_distinct (weighed_distinct (metric_of xs) plate (library_codes l) (λ s m. (library_strains xs b l).code_fits m))
