-- The check accepts exactly the libraries: bytes with the layout, whose tree satisfies the published definition. Assumes nothing.
use mathlib.Core.Path.{◌≡◌, refl, sym, ◌∙◌, ap}
use mathlib.Core.Logic.{◌≢◌, ◌↔◌, ◌⊎◌, inl, inr, ⊎_elim}
use mathlib.Core.Bool.{Bool, true, false, not}
use mathlib.Core.List.{List}
use Prim.Native.Nat.{ℕ, ◌≤◌, ◌<◌}
use native.Mathlib.Nat.{mul-le-mul}
use native.Mathlib.Decide.{ℕ_discrete}
use native.Mathlib.Omega.{arith}
use lib.Dec.{ltb, eqb}
use lib.ListN.{length}
use lib.Signed.{◌<ℤ◌}
use borrow.Author.Tests.{ltb-true, ltb-false, leb-false, eqb-false, eqb-true, not-false, eq-eqb, ne_eqb}
use Rattle.profile.specs.Level.{◌>2^◌, lower, cover_limit}
use Rattle.profile.proofs.Distances.{distance_metric}
use Rattle.profile.proofs.Levels.{more_than, at_most, cover_lower}
use Rattle.profile.proofs.Signs.{le_no, parts_lt}
use Rattle.tree.specs.Tree.{Other}
use Rattle.tree.proofs.Root.{cover_tree}
use Rattle.tree.proofs.Separation.{pairs_of_sets}
use Rattle.image.specs.Fields.{wells_of, metric_of, count_of, root_of, code_at, parent_at, level_byte_at, level_at, distance_at}
use Rattle.image.specs.Library.{Layout, tree_of, Library}
use Rattle.image.specs.Verdict.{accepted, judge}
use Rattle.image.proofs.Verdicts.{pass}
use Rattle.checker.specs.Check.{Checked, header_rules, check_rules, check_of}
use Rattle.checker.specs.Tests.{outside, bad_size, bad_node, bad_level, bad_cover, same_code, too_near}
use Rattle.std.specs.Prelude.{Ok}
use Rattle.image.specs.Answer.{verdict_of}
use Rattle.image.proofs.Tests.{told_false, tells_or, tells_le}
use Rattle.checker.proofs.Table.{tells_outside, tells_other, tells_node, tells_code, tells_level, tells_cover, tells_near}
use Rattle.checker.proofs.Passed.{or_false, inside, GoodNode, good_node}
use Rattle.checker.proofs.Passes.{Passes, passes, accepts}

-- ---- what the tests say

-- a fact of a later and an earlier record, of any two
any_two : (n : ℕ) (P : ℕ → ℕ → Type 0) → ((later earlier : ℕ) → later < n → earlier < later → P later earlier) → ((i j : ℕ) → P i j → P j i)
    → (p q : ℕ) → p < n → q < n → p ≢ q → P p q
any_two n P all turn p q hp hq ne = by (ltb p q) refl
  where
    by : (t : Bool) → ltb p q ≡ t → P p q
    by true e = turn q p (all q p hq (ltb-true p q e))
    by false e = all p q hp (omega (arith, ltb-false p q e, ne))

-- a metric's number
pub metric_is : (m : ℕ) → (1 ≤ m) × (m ≤ 2) → (m ≡ 1) ⊎ (m ≡ 2)
metric_is m h = by (ℕ_discrete m 1)
  where
    by : Dec (m ≡ 1) → (m ≡ 1) ⊎ (m ≡ 2)
    by (yes e) = inl e
    by (no ne) = inr (omega (arith, ne))

root_says : (xs : List ℕ) → bad_level xs (root_of xs) ≡ false → parent_at xs (root_of xs) ≡ root_of xs
unfolding bad_level
root_says xs e =
    let h : eqb (root_of xs) (root_of xs) ≡ true = eq-eqb (root_of xs) (root_of xs) refl in
    eqb-true _ _ (not-false _ (or_false (not (eqb (parent_at xs (root_of xs)) (root_of xs))) false (rw h at e)).0)

level_says : (xs : List ℕ) (i : ℕ) → i ≢ root_of xs → bad_level xs i ≡ false → level_at xs i <ℤ level_at xs (parent_at xs i)
unfolding bad_level
level_says xs i ne e =
    let h : eqb i (root_of xs) ≡ false = ne_eqb i (root_of xs) ne in
    parts_lt (level_at xs i) (level_at xs (parent_at xs i)) (omega (arith, le_no (level_at xs (parent_at xs i)) (level_at xs i) (rw h at e)))

cover_says : (xs : List ℕ) (i : ℕ) → i ≢ root_of xs → bad_cover xs i ≡ false → distance_at xs (parent_at xs i) i ≤ cover_limit (level_at xs i)
unfolding bad_cover
cover_says xs i ne e =
    let h : eqb i (root_of xs) ≡ false = ne_eqb i (root_of xs) ne in
    ltb-false _ _ (rw h at e)

near_says : (xs : List ℕ) (later earlier : ℕ) → too_near xs later earlier ≡ false → distance_at xs later earlier >2^ lower (level_at xs later) (level_at xs earlier)
unfolding too_near
near_says xs later earlier e = (more_than _ _).1 (leb-false _ _ e)

one_code : (xs : List ℕ) (n : ℕ) → ((later earlier : ℕ) → later < n → earlier < later → same_code xs later earlier ≡ false)
    → (i j : ℕ) → i < n → j < n → code_at xs i ≡ code_at xs j → i ≡ j
unfolding same_code
one_code xs n all i j hi hj e = by (ℕ_discrete i j)
  where
    differ : (a b : ℕ) → a < n → b < n → a ≢ b → code_at xs a ≢ code_at xs b
    differ = any_two n (λ a b. code_at xs a ≢ code_at xs b) (λ l k h m. eqb-false (code_at xs l) (code_at xs k) (all l k h m)) (λ a b f q. f (sym q))

    by : Dec (i ≡ j) → i ≡ j
    by (yes q) = q
    by (no ne) = absurd (differ i j hi hj ne e)

distance_symmetric : (xs : List ℕ) → (metric_of xs ≡ 1) ⊎ (metric_of xs ≡ 2) → (i j : ℕ) → distance_at xs i j ≡ distance_at xs j i
unfolding distance_at
distance_symmetric xs m i j = (distance_metric (metric_of xs) (wells_of xs) m).symmetric _ _

turned : (xs : List ℕ) → (metric_of xs ≡ 1) ⊎ (metric_of xs ≡ 2) → (i j : ℕ) → distance_at xs i j >2^ lower (level_at xs i) (level_at xs j)
    → distance_at xs j i >2^ lower (level_at xs j) (level_at xs i)
turned xs m i j h =
    (more_than _ _).1 (omega (
      arith,
      (more_than (distance_at xs i j) (lower (level_at xs i) (level_at xs j))).0 h,
      cover_lower (level_at xs i) (level_at xs j),
      cover_lower (level_at xs j) (level_at xs i),
      distance_symmetric xs m i j,
    ))

layout_of : (xs : List ℕ) → Passes xs → Layout xs
layout_of xs p =
    let good : (i : ℕ) → i < count_of xs → GoodNode xs i = λ i h. good_node xs i (p.node i h) in
    let o = or_false _ _ p.offsets in
    let is_root : root_of xs < count_of xs = leb-false _ _ p.root in
    record {
      edition = eqb-true _ _ (not-false _ p.edition);
      wells = inside 1 16 _ p.wells;
      metric = metric_is _ (inside 1 2 _ p.metric);
      count = inside 1 1024 _ p.count;
      profiles_offset = eqb-true _ _ (not-false _ o.0);
      nodes_offset = eqb-true _ _ (not-false _ o.1);
      size = eqb-true _ _ (not-false _ p.length);
      root = is_root;
      root_parent = root_says xs (p.level (root_of xs) is_root);
      code = λ i h. (good i h).code;
      codes = one_code xs (count_of xs) p.code;
      parent = λ i h. (good i h).parent;
      level_byte = λ i h. (good i h).level;
      spare = λ i h. (good i h).spare;
    }

library_of : (xs : List ℕ) → Passes xs → Library xs
unfolding distance_at
library_of xs p =
    let l = layout_of xs p in
    record {
      layout = l;
      tree = cover_tree (λ q h. h) l.root
          (record {
            is_node = λ q o. l.parent q o.node;
            below = λ q o. level_says xs q o.not_root (p.level q o.node);
            near = λ q o. (at_most (distance_at xs (parent_at xs q) q) (level_at xs q)).1 (cover_says xs q o.not_root (p.cover q o.node));
          })
          (record {
            apart = any_two (count_of xs) (λ a b. distance_at xs a b >2^ lower (level_at xs a) (level_at xs b))
                (λ j i h m. near_says xs j i (p.near j i h m)) (turned xs l.metric);
          });
    }

-- ---- and back: a library passes every rule

in_range : (lo hi x : ℕ) → (lo ≤ x) × (x ≤ hi) → outside lo hi x ≡ false
in_range lo hi x h =
    told_false (tells_outside lo hi x) (⊎_elim (λ (u : x < lo). absurd (omega (arith, h.0))) (λ (u : hi < x). absurd (omega (arith, h.1))))

metric_range : (m : ℕ) → (m ≡ 1) ⊎ (m ≡ 2) → (1 ≤ m) × (m ≤ 2)
metric_range m (inl e) = (omega arith, omega arith)
metric_range m (inr e) = (omega arith, omega arith)

same : (a b : ℕ) → a ≡ b → not (eqb a b) ≡ false
same a b e = told_false (tells_other a b) (λ f. f e)

node_passes : (xs : List ℕ) → Layout xs → (i : ℕ) → i < count_of xs → bad_node xs i ≡ false
node_passes xs l i h =
    told_false (tells_node xs i)
    (⊎_elim
    (⊎_elim
    (⊎_elim (l.code i h) (λ (u : count_of xs ≤ parent_at xs i). absurd (omega (arith, l.parent i h))))
    (λ (u : 21 < level_byte_at xs i). absurd (omega (arith, l.level_byte i h))))
    (λ f. f (l.spare i h)))

module _ (xs : List ℕ) (v : Library xs) where
  other : {i : ℕ} → i < count_of xs → i ≢ root_of xs → Other (tree_of xs) i
  other h ne = record { node = h; not_root = ne }

  level_passes : (i : ℕ) → i < count_of xs → bad_level xs i ≡ false
  level_passes i h =
      told_false (tells_level xs i)
      (⊎_elim (λ s. s.1 (rw s.0 v.layout.root_parent)) (λ s. s.1 (v.tree.cover.below i (other h s.0))))

  cover_passes : (i : ℕ) → i < count_of xs → bad_cover xs i ≡ false
  unfolding distance_at
  cover_passes i h = told_false (tells_cover xs i) (λ f. f.1 (v.tree.cover.near i (other h f.0)))

  near_passes : (later earlier : ℕ) → later < count_of xs → earlier < later → too_near xs later earlier ≡ false
  unfolding distance_at
  near_passes j i h m =
      told_false (tells_near xs j i) (λ f. f ((pairs_of_sets v.tree.separation).apart j i h (omega arith) (omega arith)))

  code_passes : (later earlier : ℕ) → later < count_of xs → earlier < later → same_code xs later earlier ≡ false
  code_passes j i h m = told_false (tells_code xs j i) (λ e. absurd (omega (arith, v.layout.codes j i h (omega arith) e)))

passes_of : (xs : List ℕ) → Library xs → Passes xs
passes_of xs v =
    let l = v.layout in
    record {
      size = in_range 16 40976 (length xs) (omega (arith, l.size, mul-le-mul l.wells.1 l.count.1), omega (arith, l.size, mul-le-mul l.wells.1 l.count.1));
      edition = same _ _ l.edition;
      wells = in_range 1 16 _ l.wells;
      metric = in_range 1 2 _ (metric_range _ l.metric);
      count = in_range 1 1024 _ l.count;
      offsets = told_false (tells_or (tells_other _ _) (tells_other _ _)) (⊎_elim (λ f. f l.profiles_offset) (λ f. f l.nodes_offset));
      length = same _ _ l.size;
      root = told_false (tells_le _ _) (λ (f : count_of xs ≤ root_of xs). absurd (omega (arith, l.root)));
      node = node_passes xs l;
      code = code_passes xs v;
      level = level_passes xs v;
      cover = cover_passes xs v;
      near = near_passes xs v;
    }

-- the check accepts exactly the libraries
pub accepted_exactly : (xs : List ℕ) → (check_of xs ≡ accepted) ↔ Library xs
accepted_exactly xs = (λ e. library_of xs (passes xs e), λ v. sym (accepts xs (passes_of xs v)))

-- what a caller knows where the check's answer was `Ok`
pub if_accepted : (xs : List ℕ) (r : Checked) → verdict_of r ≡ check_of xs → r ≡ Ok tt → Library xs
if_accepted xs r p q = (accepted_exactly xs).0 (sym p ∙ ap verdict_of q)

-- and where it refuses by none of its rules
pub past_all : (xs ys : List ℕ) → ys ≡ xs → bad_size xs ≡ false → accepted ≡ judge (header_rules xs) → Library ys
unfolding check_of check_rules
past_all xs ys same size e = rw same ((accepted_exactly xs).0 (sym (pass _ _ _ _ size e)))
