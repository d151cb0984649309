-- The filing form: accepted, with the same strains, and one for each set of strains. Assumes nothing.
use mathlib.Core.Path.{◌≡◌, refl, sym, ◌∙◌, ap, subst}
use mathlib.Core.Logic.{◌≢◌, ◌↔◌}
use mathlib.Core.List.{List, ◌∷◌, map, Memᴰ}
use Prim.Native.Nat.{ℕ, zero, suc, ◌<◌}
use native.Mathlib.Decide.{ℕ_discrete}
use native.Mathlib.Omega.{arith}
use lib.ListN.{length, get_or}
use Rattle.profile.specs.Distance.{Profile}
use Rattle.ranking.proofs.Places.{distinct_get_or}
use Rattle.ranking.proofs.Sorted.{sort_length, sort_mem, mem_sort, sort_ascending, sort_distinct, sort_sorted, sort_only_by_set}
use Rattle.image.specs.Fields.{wells_of, metric_of, count_of, code_at, profile_at}
use Rattle.image.specs.Strains.{Strain, each, strain_at, strains_of}
use Rattle.image.specs.Library.{Library}
use Rattle.image.proofs.Strains.{strains_length, strain_is, strain_record}
use Rattle.image.proofs.Trees.{library_profiles}
use Rattle.content.specs.Content.{Kept, Content, no_record, strains, record_at, records_of, content_of}
use Rattle.content.specs.Bytes.{bytes_of, Bytes, Roomy, Writable}
use Rattle.content.specs.Filing.{by_code, grown_of, filed, filing_form, Agree}
use Rattle.content.proofs.Records.{content_count, content_nth}
use Rattle.content.proofs.Bytes.{header_is, content_of_bytes, content_writable}
use Rattle.content.proofs.Filed.{Holdable, Sound, grown_strains, grown_keeps, grown_sound}

pub each_map : {A B : Type 0} (f : A → B) (g : ℕ → A) (i n : ℕ) → map f (each g i n) ≡ each (λ k. f (g k)) i n
unfolding each
each_map f g i zero = refl
each_map {B = B} f g i (suc n) = ap (λ (r : List B). f (g i) ∷ r) (each_map f g (suc i) n)

pub strains_are : (xs : List ℕ) → strains (content_of xs) ≡ strains_of xs
unfolding content_of records_of strains_of
strains_are xs = each_map (λ (r : Kept). r.strain) (record_at xs) 0 (count_of xs)

pub strains_written : (c : Content) → Writable c → strains_of (bytes_of c) ≡ strains c
strains_written c w = sym (strains_are (bytes_of c)) ∙ ap strains (content_of_bytes c w)

-- what an accepted library holds, a library can hold
module _ (xs : List ℕ) (b : Bytes xs) (l : Library xs) where
  roomy : (i : ℕ) → i < count_of xs → Roomy (wells_of xs) (record_at xs i)
  unfolding content_of
  roomy i h = rw (← content_nth xs i h) ((content_writable xs b).each i (rw (content_count xs) h))

  by_place : (P : Strain → Type 0) → ((i : ℕ) → i < count_of xs → P (strain_at xs i)) → {s : Strain} → Memᴰ s (strains_of xs) → P s
  by_place P f m = let p = strain_record xs m in subst P p.2 (f p.0 p.1)

  code_is : (i : ℕ) → i < length (strains_of xs) → (get_or (strains_of xs) i no_record.strain).code ≡ code_at xs i
  code_is i h = ap (λ (s : Strain). s.code) (strain_is xs i no_record.strain (omega (arith, strains_length xs)))

  -- two records with one profile are one
  one_profile : (i j : ℕ) → i < count_of xs → j < count_of xs → profile_at xs i ≡ profile_at xs j → code_at xs i ≡ code_at xs j
  one_profile i j h k e = go (ℕ_discrete i j)
    where
      go : Dec (i ≡ j) → code_at xs i ≡ code_at xs j
      go (yes q) = ap (code_at xs) q
      go (no ne) = absurd (library_profiles l i j h k ne e)

  pub library_strains : Holdable (wells_of xs) (strains_of xs)
  library_strains = record {
    count = rw (strains_length xs) l.layout.count.1;
    code = by_place (λ s. s.code ≢ 0) l.layout.code;
    code_fits = by_place (λ s. s.code < 4294967296) (λ i h. (roomy i h).code);
    profile = by_place (λ s. Profile (wells_of xs) s.profile) (λ i h. (roomy i h).profile);
    codes = distinct_get_or (λ s. s.code) (strains_of xs) no_record.strain
        (λ i j h k e. l.layout.codes i j (omega (arith, strains_length xs)) (omega (arith, strains_length xs)) (sym (code_is i h) ∙ e ∙ code_is j k));
    profiles = λ {s} {t} m k.
        by_place (λ z. z.profile ≡ t.profile → z.code ≡ t.code)
        (λ i h. by_place (λ z. profile_at xs i ≡ z.profile → code_at xs i ≡ z.code) (λ j g. one_profile i j h g) k) m;
  }

abbrev code_of : Strain → ℕ
code_of s = s.code

-- in order they can be held too
pub sorted_holdable : {wells : ℕ} {ss : List Strain} → Holdable wells ss → Holdable wells (by_code ss)
sorted_holdable {ss = ss} h = record {
  count = rw (sort_length code_of ss) h.count;
  code = λ m. h.code (sort_mem code_of ss m);
  code_fits = λ m. h.code_fits (sort_mem code_of ss m);
  profile = λ m. h.profile (sort_mem code_of ss m);
  codes = sort_distinct h.codes;
  profiles = λ m k. h.profiles (sort_mem code_of ss m) (sort_mem code_of ss k);
}

-- ---- the filing form of an accepted library

module _ (xs : List ℕ) (b : Bytes xs) (l : Library xs) where
  abbrev c : Content
  c = filed (wells_of xs) (metric_of xs) (strains_of xs)

  filed_sound : Sound c
  unfolding filed
  filed_sound =
      grown_sound (wells_of xs) (metric_of xs) (by_code (strains_of xs)) l.layout.wells l.layout.metric (sorted_holdable (library_strains xs b l))
      (rw (sort_length code_of (strains_of xs), strains_length xs) (omega (arith, l.layout.count.0)))

  filed_strains : strains c ≡ by_code (strains_of xs)
  unfolding filed
  filed_strains = grown_strains (wells_of xs) (metric_of xs) (by_code (strains_of xs))

  -- it holds the same strains, in ascending order of code
  pub file_strains : strains_of (filing_form xs) ≡ by_code (strains_of xs)
  unfolding filing_form
  file_strains = strains_written c filed_sound.written ∙ filed_strains

  -- it is accepted
  pub file_accepted : Library (filing_form xs)
  unfolding filing_form
  file_accepted = filed_sound.accepted

  pub file_wells : wells_of (filing_form xs) ≡ wells_of xs
  unfolding filing_form filed
  file_wells = (header_is c filed_sound.written).wells ∙ (grown_keeps (wells_of xs) (metric_of xs) (by_code (strains_of xs))).wells

  pub file_metric : metric_of (filing_form xs) ≡ metric_of xs
  unfolding filing_form filed
  file_metric = (header_is c filed_sound.written).metric ∙ (grown_keeps (wells_of xs) (metric_of xs) (by_code (strains_of xs))).metric

  pub file_count : count_of (filing_form xs) ≡ count_of xs
  file_count = sym (strains_length (filing_form xs)) ∙ ap length file_strains ∙ sort_length code_of (strains_of xs) ∙ strains_length xs

  -- it is as long as the library
  pub file_length : length (filing_form xs) ≡ length xs
  file_length = file_accepted.layout.size ∙ rw (file_wells, file_count) (sym l.layout.size)

  pub file_same_strains : (s : Strain) → Memᴰ s (strains_of (filing_form xs)) ↔ Memᴰ s (strains_of xs)
  file_same_strains s = rw file_strains (sort_mem code_of (strains_of xs), mem_sort code_of (strains_of xs))

-- wells, metric and the strains in order decide the filing form
form_by : (xs ys : List ℕ) → wells_of xs ≡ wells_of ys → metric_of xs ≡ metric_of ys → by_code (strains_of xs) ≡ by_code (strains_of ys) → filing_form xs ≡ filing_form ys
unfolding filing_form filed
form_by xs ys w m s = λ i. bytes_of (grown_of (w i) (m i) (s i))

module _ (xs : List ℕ) (b : Bytes xs) (l : Library xs) where
  -- filing a filing form changes nothing
  pub file_twice : filing_form (filing_form xs) ≡ filing_form xs
  file_twice =
      form_by (filing_form xs) xs (file_wells xs b l) (file_metric xs b l)
      (rw (file_strains xs b l) (sort_sorted (sort_ascending code_of (strains_of xs))))

-- two libraries have one filing form exactly when they agree in wells, metric and the set of their strains
module _ (xs ys : List ℕ) (bx : Bytes xs) (by : Bytes ys) (lx : Library xs) (ly : Library ys) where
  pub file_only_by_set : (filing_form xs ≡ filing_form ys) ↔ Agree xs ys
  file_only_by_set = (there, back)
    where
      there : filing_form xs ≡ filing_form ys → Agree xs ys
      there e = record {
        wells = sym (file_wells xs bx lx) ∙ ap wells_of e ∙ file_wells ys by ly;
        metric = sym (file_metric xs bx lx) ∙ ap metric_of e ∙ file_metric ys by ly;
        strain = λ s. (
          λ m. (file_same_strains ys by ly s).0 (subst (λ (zs : List ℕ). Memᴰ s (strains_of zs)) e ((file_same_strains xs bx lx s).1 m)),
          λ m. (file_same_strains xs bx lx s).0 (subst (λ (zs : List ℕ). Memᴰ s (strains_of zs)) (sym e) ((file_same_strains ys by ly s).1 m)),
        );
      }

      back : Agree xs ys → filing_form xs ≡ filing_form ys
      back a =
          form_by xs ys a.wells a.metric
          (sort_only_by_set (library_strains xs bx lx).codes (library_strains ys by ly).codes (λ s. (a.strain s).0) (λ s. (a.strain s).1))
