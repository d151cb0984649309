-- When a strain may be added: its profile is held exactly where the nearest record that can take it lies at distance 0. Assumes nothing.
use mathlib.Core.Path.{◌≡◌, refl, sym, ◌∙◌, ap, ap₂, transport}
use mathlib.Core.Logic.{◌≢◌, inr}
use mathlib.Core.Bool.{true≢false}
use mathlib.Core.List.{List, [], ◌∷◌, nil≢cons, cons≢nil, head-eq_of_cons-eq, tail-eq_of_cons-eq}
use Prim.Native.Nat.{ℕ, ◌<◌}
use native.Mathlib.Omega.{arith}
use lib.IntN.{ℤ}
use lib.ListN.{length}
use borrow.Author.Tests.{lt-ltb}
use Rattle.std.specs.Prelude.{Some, None}
use Rattle.profile.specs.Metric.{metric_number}
use Rattle.profile.specs.Distance.{gap, distance}
use Rattle.profile.proofs.Levels.{at_most_level}
use Rattle.profile.proofs.Wells.{gap_self, gap_apart}
use Rattle.image.specs.Fields.{wells_of, metric_of, count_of, level_at, profile_at}
use Rattle.image.specs.Library.{Library}
use Rattle.image.specs.Verdict.{at_first}
use Rattle.image.specs.declared.accepted.Accepted.{Accepted}
use Rattle.image.specs.declared.records.Records.{Records}
use Rattle.image.specs.declared.refusal.Place.{Place}
use Rattle.image.proofs.First.{found}
use Rattle.image.proofs.Searches.{record_none}
use Rattle.image.proofs.Tests.{Tells, told_true, told_false, tells_and, tells_eq}
use Rattle.image.proofs.Trees.{library_metric, profile_length, library_profiles}
use Rattle.content.specs.Content.{nth, first_of, content_of}
use Rattle.content.specs.Adding.{parent_for}
use Rattle.content.proofs.Accepted.{parent_in_lem, dist_is, chosen}
use Rattle.adding.specs.Steps.{Seated}
use Rattle.adding.specs.declared.takers.Takers.{Takers}
use Rattle.adding.specs.declared.seat.Seat.{Seat}
use Rattle.build.specs.Rules.{alike, profile_held}

-- two profiles are alike where they are equal
pub tells_alike : (xs ys : List ℤ) → Tells (alike xs ys) (xs ≡ ys)
unfolding alike
tells_alike [] [] = record { yes = λ e. refl; no = λ e. absurd (true≢false e) }
tells_alike [] (y ∷ ys) = record { yes = λ e. absurd (true≢false (sym e)); no = λ e q. nil≢cons q }
tells_alike (x ∷ xs) [] = record { yes = λ e. absurd (true≢false (sym e)); no = λ e q. cons≢nil q }
tells_alike (x ∷ xs) (y ∷ ys) =
    let t = tells_and (tells_eq (gap x y) 0) (tells_alike xs ys) in
    record {
      yes = λ e. ap₂ ◌∷◌ (gap_apart x y (t.yes e).0) (t.yes e).1;
      no = λ e q. t.no e (ap (gap x) (sym (head-eq_of_cons-eq q)) ∙ gap_self x, tail-eq_of_cons-eq q);
    }

-- the seat that is found among all records of an accepted library is a seat in it
pub seated_all : (a : Accepted) (t : Takers) {x : List ℤ} {seat : Seat} → t.records ≡ a.records → t.filled ≡ a.records.shape.count → t.profile.now ≡ x
    → Seated (metric_number t.records.shape.metric) t.profile.now (nth (first_of t.records.image.now t.filled).records) seat (parent_for (first_of t.records.image.now t.filled) t.profile.now)
    → Seated (metric_of a.records.image.now) x (nth (content_of a.records.image.now).records) seat (parent_for (content_of a.records.image.now) x)
unfolding content_of
seated_all a t {x} {seat} r f p s =
    transport (λ i. Seated (metric i) (p i) (nth (first_of (r i).image.now (count i)).records) seat (parent_for (first_of (r i).image.now (count i)) (p i))) s
  where
    metric : metric_number t.records.shape.metric ≡ metric_of a.records.image.now
    metric = ap (λ (rs : Records). metric_number rs.shape.metric) r ∙ a.is_metric

    count : t.filled ≡ count_of a.records.image.now
    count = f ∙ a.is_count

-- of such a seat
module _ {xs : List ℕ} (l : Library xs) (x : List ℤ) (lx : length x ≡ wells_of xs) (seat : Seat)
    (s : Seated (metric_of xs) x (nth (content_of xs).records) seat (parent_for (content_of xs) x)) where
  abbrev d : ℕ → ℕ
  d i = distance (metric_of xs) (profile_at xs i) x

  seat_in : seat.parent < count_of xs
  seat_in = rw s.parent (parent_in_lem xs l x)

  far : seat.distance ≡ d seat.parent
  far = s.distance ∙ dist_is xs l x (parent_for (content_of xs) x) (parent_in_lem xs l x) ∙ ap d (sym s.parent)

  -- at distance 0 stands the one record with this profile
  pub held_there : seat.distance ≡ 0 → at_first (count_of xs) (profile_held xs x) ≡ Some (Place.Record seat.parent)
  unfolding profile_held at_first
  held_there e =
      let first = found {p = profile_held xs x} seat_in (λ j h. told_false (tells_alike (profile_at xs j) x) (λ q. other j h (q ∙ sym same))) (told_true (tells_alike _ x) same) in
      rw (← first, lt-ltb _ _ seat_in) refl
    where
      same : profile_at xs seat.parent ≡ x
      same = (library_metric l).apart _ _ (profile_length xs seat.parent) lx (sym far ∙ e)

      other : (j : ℕ) → j < seat.parent → profile_at xs j ≢ profile_at xs seat.parent
      other j h = library_profiles l j seat.parent (omega (arith, seat_in)) seat_in (λ q. absurd (omega arith))

  -- and where the nearest is further, no record has it
  none_held : 0 < seat.distance → (i : ℕ) → i < count_of xs → profile_at xs i ≢ x
  none_held h i k e =
      let zero_far : d i ≡ 0 = rw e ((library_metric l).self x) in
      absurd (omega (
        arith,
        far,
        zero_far,
        ap d s.parent,
        (chosen xs l x).nearest i (record { node = k; near = inr ((at_most_level (d i) (level_at xs i)).1 (omega arith)) }),
      ))

  pub not_held : 0 < seat.distance → at_first (count_of xs) (profile_held xs x) ≡ None
  unfolding profile_held
  not_held h = record_none _ _ (λ j k. told_false (tells_alike (profile_at xs j) x) (none_held h j k))
