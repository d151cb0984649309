-- Each record's children as a chain: a record put in front of one, and the tree that hangs by the chains. Assumes nothing.
use mathlib.Core.Path.{◌≡◌, refl, sym, ap, ◌∙◌}
use mathlib.Core.Logic.{◌≢◌}
use mathlib.Core.Bool.{Bool, true, false, and-false}
use mathlib.Core.List.{List, ◌∷◌}
use Prim.Native.Nat.{ℕ, zero, suc, ◌+◌, ◌≤◌, ◌<◌}
use native.Mathlib.Omega.{arith}
use lib.Dec.{eqb}
use lib.ListN.{length, get_or, set, replicate, length-map, length-replicate, get_or-replicate}
use lib.Seq.{get_or-set_same, get_or-set_other, map-set}
use Rattle.std.proofs.Math.Seq.{map-set_same}
use Rattle.std.proofs.lemmas.List.{get_or-map}
use borrow.Author.Tests.{eqb-true, eqb-false, eq-eqb, ne_eqb, lt-ltb}
use Rattle.image.specs.Fields.{count_of, root_of, parent_at}
use Rattle.walk.specs.Forest.{Forest, grow, is_child, children_from, siblings, below_of}
use Rattle.walk.specs.Links.{Chain, first_in, next_in, Linked, chained, linked_below}
use Rattle.walk.specs.declared.links.Link.{Link}
use Rattle.walk.specs.declared.links.Links.{Links}

-- ---- chains

module _ {next : List ℕ} where
  chain_from : {low lower c : ℕ} {cs : List ℕ} → lower ≤ low → Chain next low c cs → Chain next lower c cs
  chain_from h Chain.stop = Chain.stop
  chain_from {lower = lower} h (Chain.link {c = c} l u rest) = Chain.link {low = lower} {c = c} (omega arith) u rest

  -- a store in front of a chain leaves it as it is
  chain_kept : {low c : ℕ} {cs : List ℕ} (i x : ℕ) → i < low → Chain next low c cs → Chain (set next i x) low c cs
  chain_kept i x h Chain.stop = Chain.stop
  chain_kept i x h (Chain.link {c = c} {cs = cs} l u rest) =
      Chain.link {cs = cs} l u (rw (get_or-set_other next i c x 0 (λ e. omega arith)) (chain_kept i x (omega arith) rest))

  chain_is : {low c : ℕ} {cs : List ℕ} (many : ℕ) → 1024 ≤ low + many → Chain next low c cs → chained next many c ≡ cs
  unfolding chained
  chain_is zero h Chain.stop = refl
  chain_is (suc many) h Chain.stop = refl
  chain_is zero h (Chain.link l u rest) = absurd (omega arith)
  chain_is {low = low} (suc many) h (Chain.link {c = c} l u rest) = rw (lt-ltb c 1024 u) (ap (λ (cs : List ℕ). c ∷ cs) (chain_is {low = suc c} many (omega arith) rest))

  -- siblings in a chain, with the same below each record
  chain_siblings : {low c : ℕ} {cs : List ℕ} (f g : ℕ → Forest) → ((v : ℕ) → v < 1024 → f v ≡ g v) → Chain next low c cs → siblings f cs ≡ siblings g cs
  unfolding siblings
  chain_siblings f g same Chain.stop = refl
  chain_siblings f g same (Chain.link {c = c} l u rest) = let e = chain_siblings f g same rest in λ i. grow c (same c u i) (e i)

-- ---- one record more

children_less : (xs : List ℕ) (v i many : ℕ) → is_child xs v i ≡ false → children_from xs v i (suc many) ≡ children_from xs v (suc i) many
unfolding children_from
children_less xs v i many e = rw e

children_more : (xs : List ℕ) (v i many : ℕ) → is_child xs v i ≡ true → children_from xs v i (suc many) ≡ i ∷ children_from xs v (suc i) many
unfolding children_from
children_more xs v i many e = rw e

module _ (xs : List ℕ) (v i : ℕ) where
  root_child : i ≡ root_of xs → is_child xs v i ≡ false
  unfolding is_child
  root_child e = rw (eq-eqb i (root_of xs) e) (and-false (eqb (parent_at xs i) v))

  other_child : parent_at xs i ≢ v → is_child xs v i ≡ false
  unfolding is_child
  other_child other = rw (ne_eqb (parent_at xs i) v other)

  own_child : i ≢ root_of xs → parent_at xs i ≡ v → is_child xs v i ≡ true
  unfolding is_child
  own_child below e = rw (eq-eqb (parent_at xs i) v e, ne_eqb i (root_of xs) below)

-- no record is linked yet
pub linked_none : {xs : List ℕ} {links : List Links} {none : Links} {count : ℕ} → links ≡ replicate 1024 none → none.child.0 ≡ 1024 → count ≡ count_of xs
    → Linked xs links count
unfolding children_from
linked_none {xs} {links} {none} {count} e is_none all = record { long = long; chain = onward }
  where
    long : length links ≡ 1024
    long = ap length e ∙ length-replicate {A = Links} 1024 none

    first : (v : ℕ) → v < 1024 → get_or (first_in links) v 0 ≡ 1024
    first v h =
        get_or-map (λ (l : Links). l.child.0) links v none 0 (omega (arith, long))
        ∙ ap (λ (l : Links). l.child.0) (ap (λ (ls : List Links). get_or ls v none) e ∙ get_or-replicate {A = Links} 1024 v none none h)
        ∙ is_none

    onward : (v many : ℕ) → v < 1024 → count + many ≡ count_of xs → Chain (next_in links) count (get_or (first_in links) v 0) (children_from xs v count many)
    onward v zero h k = rw (first v h) Chain.stop
    onward v (suc many) h k = absurd (omega arith)

module _ {xs : List ℕ} {links : List Links} (i : ℕ) (here : i < count_of xs) (linked : Linked xs links (suc i)) where
  pub linked_root : i ≡ root_of xs → Linked xs links i
  linked_root e = record { long = linked.long; chain = onward }
    where
      onward : (v many : ℕ) → v < 1024 → i + many ≡ count_of xs → Chain (next_in links) i (get_or (first_in links) v 0) (children_from xs v i many)
      onward v zero h k = absurd (omega arith)
      onward v (suc many) h k =
          rw (children_less xs v i many (root_child xs v i e)) (chain_from (omega arith) (linked.chain v many h (omega arith)))

  -- a record goes in front of its parent's children
  module _ (parent : ℕ) (own : parent ≡ parent_at xs i) (below : i ≢ root_of xs) (small : i < 1024) (within : parent < 1024) where
    first_long : length (first_in links) ≡ 1024
    first_long = length-map links (λ (l : Links). l.child.0) ∙ linked.long

    next_long : length (next_in links) ≡ 1024
    next_long = length-map links (λ (l : Links). l.sibling.0) ∙ linked.long

    abbrev next : List ℕ
    next = set (next_in links) i (get_or (first_in links) parent 0)

    kept : (v many : ℕ) → v < 1024 → i + suc many ≡ count_of xs → Chain next (suc i) (get_or (first_in links) v 0) (children_from xs v (suc i) many)
    kept v many h k = chain_kept i (get_or (first_in links) parent 0) (omega arith) (linked.chain v many h (omega arith))

    in_front : (v many : ℕ) → v < 1024 → i + suc many ≡ count_of xs → (t : Bool) → eqb parent v ≡ t
        → Chain next i (get_or (set (first_in links) parent i) v 0) (children_from xs v i (suc many))
    in_front v many h k true q =
        let e : v ≡ parent = sym (eqb-true parent v q) in
        rw (e, children_more xs parent i many (own_child xs parent i below (sym own)), get_or-set_same (first_in links) parent i 0 (omega (arith, first_long)))
        (Chain.link {low = i} {c = i} {cs = children_from xs parent (suc i) many} (omega arith) small
        (rw (get_or-set_same (next_in links) i (get_or (first_in links) parent 0) 0 (omega (arith, next_long))) (kept parent many within k)))
    in_front v many h k false q =
        let other = eqb-false parent v q in
        rw (children_less xs v i many (other_child xs v i (λ e. other (own ∙ e))), get_or-set_other (first_in links) parent v i 0 (λ e. other (sym e)))
        (chain_from (omega arith) (kept v many h k))

    pub linked_by : {links' : List Links} → length links' ≡ length links → first_in links' ≡ set (first_in links) parent i → next_in links' ≡ next → Linked xs links' i
    linked_by {links'} long is_first is_next = record { long = long ∙ linked.long; chain = rw (is_first, is_next) onward }
      where
        onward : (v many : ℕ) → v < 1024 → i + many ≡ count_of xs → Chain next i (get_or (set (first_in links) parent i) v 0) (children_from xs v i many)
        onward v zero h k = absurd (omega arith)
        onward v (suc many) h k = in_front v many h k (eqb parent v) refl

-- a record's next sibling is stored, and then its parent's first child
module _ (links : List Links) (i parent : ℕ) (none : Links) (own : Link) (low : parent < length links) where
  abbrev behind : List Links
  behind = set links i (record { child = (get_or links i none).child; sibling = (get_or links parent none).child })

  abbrev hung : List Links
  hung = set behind parent (record { child = own; sibling = (get_or behind parent none).sibling })

  pub hung_first : first_in hung ≡ set (first_in links) parent own.0
  hung_first =
      map-set (λ (l : Links). l.child.0) behind parent _
      ∙ ap (λ (firsts : List ℕ). set firsts parent own.0) (map-set_same (λ (l : Links). l.child.0) links i _ none refl)

  pub hung_next : next_in hung ≡ set (next_in links) i (get_or (first_in links) parent 0)
  hung_next =
      map-set_same (λ (l : Links). l.sibling.0) behind parent _ none refl
      ∙ map-set (λ (l : Links). l.sibling.0) links i _
      ∙ ap (set (next_in links) i) (sym (get_or-map (λ (l : Links). l.child.0) links parent none 0 low))

-- ---- what hangs below a record by the links is what hangs below it

pub linked_below_lem : {xs : List ℕ} {links : List Links} → Linked xs links 0 → (generations v : ℕ) → v < 1024
    → linked_below links generations v ≡ below_of generations xs v
unfolding linked_below below_of
linked_below_lem linked zero v h = refl
linked_below_lem {xs} {links} linked (suc generations) v h =
    let chain = linked.chain v (count_of xs) h (omega arith) in
    rw (chain_is 1024 (omega arith) chain)
    (chain_siblings (linked_below links generations) (below_of generations xs) (linked_below_lem linked generations) chain)
