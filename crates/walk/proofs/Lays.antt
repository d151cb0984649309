-- A forest laid out by storing each record where it is met. Assumes nothing.
use mathlib.Core.Path.{◌≡◌, refl, sym, ap, ◌∙◌}
use mathlib.Core.List.{List, [], ◌∷◌, ◌++◌, append-nil}
use Prim.Native.Nat.{ℕ, zero, suc, ◌+◌, ◌-◌, ◌≤◌, ◌<◌}
use native.Mathlib.Numerals.{add-one}
use native.Mathlib.Omega.{arith}
use lib.ListN.{length, get_or, take, drop, set, length-map, length-append}
use Rattle.std.proofs.lemmas.List.{take-map}
use lib.Seq.{sets, length-sets, set_comm, sets-eq, take_at, map-set}
use borrow.Author.Tests.{lt-ltb, le-ltb}
use Rattle.image.specs.Fields.{count_of, root_of}
use Rattle.image.specs.Library.{Library}
use Rattle.image.proofs.Runs.{sets_on}
use Rattle.walk.specs.Forest.{Forest, none, grow, nodes, ends, siblings, forest_of}
use Rattle.walk.specs.LaidOut.{nodes_in, ends_in, LaidOut}
use Rattle.walk.specs.Links.{first_in, next_in, Linked, chained, linked_below, linked_tree, Room, Placed}
use Rattle.walk.specs.declared.links.Links.{Links}
use Rattle.walk.specs.declared.step.Step.{Step}
use Rattle.walk.proofs.Places.{ends_length}
use Rattle.walk.proofs.Forests.{forest_length}
use Rattle.walk.proofs.Chains.{linked_below_lem}

-- ---- runs of stores

-- a store before a run can as well be made first
set_before : (l vs : List ℕ) (i j x : ℕ) → i < j → set (sets l j vs) i x ≡ sets (set l i x) j vs
set_before l [] i j x h = refl
set_before l (v ∷ vs) i j x h =
    set_before (set l j v) vs i (suc j) x (omega arith) ∙ ap (λ (m : List ℕ). sets m (suc j) vs) (set_comm l j i v x (λ e. omega arith))

-- ---- forests laid out

placed_none : {steps : List Step} {at : ℕ} → Placed steps at none steps at
unfolding nodes ends
placed_none = record { is_order = refl; is_end = refl; is_behind = omega arith }

pub placed_long : {steps steps' : List Step} {at behind : ℕ} {forest : Forest} → Placed steps at forest steps' behind → length steps' ≡ length steps
placed_long {steps} {steps'} {at} {forest = forest} p =
    sym (length-map steps' (λ (s : Step). s.node))
    ∙ ap length p.is_order
    ∙ length-sets (nodes_in steps) at (nodes forest)
    ∙ length-map steps (λ (s : Step). s.node)

nodes_length : (v : ℕ) (below behind : Forest) → length (nodes (grow v below behind)) ≡ suc (length (nodes below)) + length (nodes behind)
unfolding nodes
nodes_length v below behind = omega (arith, length-append (nodes below) (nodes behind))

tree_length : (v : ℕ) (below : Forest) → length (nodes (grow v below none)) ≡ suc (length (nodes below))
unfolding nodes
tree_length v below = omega (arith, length-append (nodes below) [])

-- what comes behind a tree is laid out from the place behind it
placed_on : {steps steps' steps'' : List Step} {at behind last v : ℕ} {below rest : Forest}
    → Placed steps at (grow v below none) steps' behind → Placed steps' behind rest steps'' last → Placed steps at (grow v below rest) steps'' last
unfolding nodes ends
placed_on {steps} {steps'} {at = at} {behind = behind} {v = v} {below = below} {rest = rest} p q =
    let b : behind ≡ suc at + length (nodes below) = omega (arith, p.is_behind, tree_length v below) in
    record {
      is_order = sets_on (nodes_in steps) at (v ∷ nodes below) behind (nodes rest) (rw append-nil at p.is_order) (omega arith) q.is_order;
      is_end = sets_on (ends_in steps) at ((suc at + length (nodes below)) ∷ ends (suc at) below) behind (ends (suc at + length (nodes below)) rest)
          (rw append-nil at p.is_end) (omega (arith, ends_length (suc at) below)) (q.is_end ∙ ap (λ (i : ℕ). sets (ends_in steps') behind (ends i rest)) b);
      is_behind = omega (arith, q.is_behind, nodes_length v below rest);
    }

-- the step of the record above a forest is stored once the place behind is known
pub placed_over : {steps steps' : List Step} {at : ℕ} {step : Step} {below : Forest}
    → Placed steps (at + 1) below steps' step.behind → Placed steps at (grow step.node below none) (set steps' at step) step.behind
unfolding nodes ends
placed_over {steps} {steps'} {at} {step} {below} placed =
    let p = rw add-one at placed in
    record {
      is_order =
          map-set (λ (s : Step). s.node) steps' at step
          ∙ rw (p.is_order, append-nil) (set_before (nodes_in steps) (nodes below) at (suc at) step.node (omega arith));
      is_end =
          map-set (λ (s : Step). s.behind) steps' at step
          ∙ rw (p.is_end, append-nil, ← p.is_behind) (set_before (ends_in steps) (ends (suc at) below) at (suc at) step.behind (omega arith));
      is_behind = omega (arith, p.is_behind, tree_length step.node below);
    }

-- ---- a record's children, laid out one by one

chained_next : (next : List ℕ) (many c : ℕ) → 0 < many → c < 1024 → chained next many c ≡ c ∷ chained next (many - 1) (get_or next c 0)
unfolding chained
chained_next next zero c some h = absurd (omega arith)
chained_next next (suc many) c some h = let e : suc many - 1 ≡ many = omega arith in rw (e, lt-ltb c 1024 h)

chained_end : (next : List ℕ) (many c : ℕ) → 1024 ≤ c → chained next many c ≡ []
unfolding chained
chained_end next zero c h = refl
chained_end next (suc many) c h = rw (le-ltb c 1024 h)

below_none : (links : List Links) (generations v : ℕ) → generations ≤ 0 → linked_below links generations v ≡ none
unfolding linked_below
below_none links zero v h = refl
below_none links (suc generations) v h = absurd (omega arith)

below_some : (links : List Links) (generations v : ℕ) → 0 < generations
    → linked_below links generations v ≡ siblings (linked_below links (generations - 1)) (chained (next_in links) 1024 (get_or (first_in links) v 0))
unfolding linked_below
below_some links zero v h = absurd (omega arith)
below_some links (suc generations) v h = let e : suc generations - 1 ≡ generations = omega arith in rw e

-- where the layout stands before a child: once it and its next siblings are laid out, the whole is. So many siblings are looked at, more than
-- there are places left
pub record Going (next : List ℕ) (below : ℕ → Forest) (whole : Forest) (steps₀ : List Step) (behind₀ : ℕ) (steps : List Step) (behind child : ℕ) : Type 0 where
  pub many : ℕ
  pub enough : 1024 < many + behind
  pub long : length steps ≡ 1024
  pub left : behind + length (nodes (siblings below (chained next many child))) ≡ behind₀ + length (nodes whole)
  pub onward : {steps' : List Step} {behind' : ℕ} → Placed steps behind (siblings below (chained next many child)) steps' behind'
      → Placed steps₀ behind₀ whole steps' behind'

module _ {next : List ℕ} {below : ℕ → Forest} {whole : Forest} {steps₀ steps : List Step} {behind₀ behind child : ℕ}
    (fits : behind₀ + length (nodes whole) ≤ 1024) (going : Going next below whole steps₀ behind₀ steps behind child) where
  pub going_end : 1024 ≤ child → Placed steps₀ behind₀ whole steps behind
  unfolding siblings
  going_end h = going.onward (rw (chained_end next going.many child h) placed_none)

  module _ (h : child < 1024) where
    rest : Forest
    rest = siblings below (chained next (going.many - 1) (get_or next child 0))

    going_next : siblings below (chained next going.many child) ≡ grow child (below child) rest
    unfolding siblings rest
    going_next = rw (chained_next next going.many child (omega (arith, going.enough, going.left)) h)

    going_left : behind + length (nodes (grow child (below child) none)) + length (nodes rest) ≡ behind₀ + length (nodes whole)
    going_left = omega (arith, rw going_next at going.left, nodes_length child (below child) rest, tree_length child (below child))

    pub going_less : {steps' : List Step} {behind' : ℕ} → Placed steps behind (grow child (below child) none) steps' behind' → 1024 - behind' < 1024 - behind
    going_less p = omega (arith, p.is_behind, tree_length child (below child), going_left)

    pub going_on : {steps' : List Step} {behind' : ℕ} → Placed steps behind (grow child (below child) none) steps' behind'
        → Going next below whole steps₀ behind₀ steps' behind' (get_or next child 0)
    unfolding rest
    going_on p = record {
      many = going.many - 1;
      enough = omega (arith, p.is_behind, tree_length child (below child), going.enough, going.left);
      long = placed_long p ∙ going.long;
      left = omega (arith, p.is_behind, going_left);
      onward = λ q. going.onward (rw going_next (placed_on p q));
    }

module _ {links : List Links} {steps : List Step} {generations v at : ℕ} (room : Room links generations v steps at) where
  pub room_below : at + 1 + length (nodes (linked_below links generations v)) ≤ 1024
  room_below = omega (arith, room.fits, tree_length v (linked_below links generations v))

  pub room_first : 0 < generations
      → Going (next_in links) (linked_below links (generations - 1)) (linked_below links generations v) steps (at + 1) steps (at + 1) (get_or (first_in links) v 0)
  room_first some = record {
    many = 1024;
    enough = omega arith;
    long = room.steps_long;
    left = rw (below_some links generations v some);
    onward = λ p. rw (below_some links generations v some) p;
  }

  pub room_none : generations ≤ 0 → Placed steps (at + 1) (linked_below links generations v) steps (at + 1)
  room_none h = rw (below_none links generations v h) placed_none

  pub room_child : {steps₀ steps' : List Step} {behind child : ℕ}
      → Going (next_in links) (linked_below links (generations - 1)) (linked_below links generations v) steps₀ (at + 1) steps' behind child
      → child < 1024 → Room links (generations - 1) child steps' behind
  room_child going h = record { long = room.long; steps_long = going.long; is_record = h; fits = omega (arith, going_left room_below going h, room_below) }

-- ---- the whole tree

-- a run of stores from the first place on stands in front
sets_front : (l vs : List ℕ) (n : ℕ) → length vs ≡ n → n ≤ length l → take n (sets l 0 vs) ≡ vs
sets_front l vs n e h =
    let f : sets l 0 vs ≡ vs ++ drop (0 + length vs) l = sets-eq vs l 0 (omega arith) in
    ap (take n) f ∙ take_at vs _ n e

module _ {xs : List ℕ} {links : List Links} (root : ℕ) (library : Library xs) (linked : Linked xs links 0) (is_root : root ≡ root_of xs) where
  root_within : root < 1024
  root_within = omega (arith, library.layout.root, library.layout.count)

  tree_is : linked_tree links 21 root ≡ forest_of xs
  unfolding forest_of
  tree_is = rw (linked_below_lem linked 21 root root_within, is_root)

  module _ {steps : List Step} (long : length steps ≡ 1024) where
    pub tree_room : Room links 21 root steps 0
    tree_room = record {
      long = linked.long;
      steps_long = long;
      is_record = root_within;
      fits = rw tree_is (omega (arith, forest_length library, library.layout.count));
    }

    pub tree_laid : {steps' : List Step} {behind count : ℕ} → count ≡ count_of xs → Placed steps 0 (linked_tree links 21 root) steps' behind → LaidOut xs (take count steps')
    tree_laid {steps'} {count = count} e p =
        let q = rw tree_is at p in
        let few = library.layout.count.1 in
        record {
          is_order =
              sym (take-map (λ (s : Step). s.node) count steps')
              ∙ ap (take count) q.is_order
              ∙ sets_front (nodes_in steps) (nodes (forest_of xs)) count (forest_length library ∙ sym e) (omega (arith, length-map steps (λ (s : Step). s.node)));
          is_end =
              sym (take-map (λ (s : Step). s.behind) count steps')
              ∙ ap (take count) q.is_end
              ∙ sets_front (ends_in steps) (ends 0 (forest_of xs)) count (ends_length 0 (forest_of xs) ∙ forest_length library ∙ sym e)
              (omega (arith, length-map steps (λ (s : Step). s.behind)));
        }
