-- A tree as links, each record's first child and each child's next sibling, and the tree that is laid out by them. Assumes nothing.
use Rattle.std.specs.Prelude.{◌≡◌, cond, List, [], ◌∷◌, map, ℕ, zero, suc, ◌+◌, ◌≤◌, ◌<◌, ltb, length, get_or}
use Rattle.std.proofs.lemmas.List.Edits.{sets}
use Rattle.image.specs.Fields.{count_of}
use Rattle.walk.specs.Forest.{Forest, none, grow, nodes, ends, children_from, siblings}
use Rattle.walk.specs.LaidOut.{nodes_in, ends_in}
use Rattle.walk.specs.declared.links.Links.{Links}
use Rattle.walk.specs.declared.step.Step.{Step}

-- a chain of ascending record numbers from `low` on: each is followed by the one that `next` tells of it. There are at most 1,024 records,
-- so 1,024 ends a chain
pub data Chain (next : List ℕ) : (low c : ℕ) → List ℕ → Type 0 where
  stop : {low : ℕ} → Chain next low 1024 []
  link : {low c : ℕ} {cs : List ℕ} → low ≤ c → c < 1024 → Chain next (suc c) (get_or next c 0) cs → Chain next low c (c ∷ cs)

-- each record's first child, and its next sibling
abbrev pub first_in : List Links → List ℕ
first_in links = map (λ (l : Links). l.child.0) links

abbrev pub next_in : List Links → List ℕ
next_in links = map (λ (l : Links). l.sibling.0) links

-- the children of every record, from record i on, as chains
pub record Linked (xs : List ℕ) (links : List Links) (i : ℕ) : Type 0 where
  pub long : length links ≡ 1024
  pub chain : (v many : ℕ) → v < 1024 → i + many ≡ count_of xs → Chain (next_in links) i (get_or (first_in links) v 0) (children_from xs v i many)

-- the records of a chain from c on, at most so many
unfoldable pub chained : List ℕ → (many c : ℕ) → List ℕ
chained next zero c = []
chained next (suc many) c = cond (ltb c 1024) (c ∷ chained next many (get_or next c 0)) []

-- what hangs below v by the links, at most so many generations
unfoldable pub linked_below : (links : List Links) → (generations v : ℕ) → Forest
linked_below links zero v = none
linked_below links (suc generations) v = siblings (linked_below links generations) (chained (next_in links) 1024 (get_or (first_in links) v 0))

-- v with what hangs below it
abbrev pub linked_tree : (links : List Links) → (generations v : ℕ) → Forest
linked_tree links generations v = grow v (linked_below links generations v) none

-- there is room for that tree from a place on
pub record Room (links : List Links) (generations v : ℕ) (steps : List Step) (at : ℕ) : Type 0 where
  pub long : length links ≡ 1024
  pub steps_long : length steps ≡ 1024
  pub is_record : v < 1024
  pub fits : at + length (nodes (linked_tree links generations v)) ≤ 1024

-- a forest is laid out from a place on, and nothing else is changed
pub record Placed (steps : List Step) (at : ℕ) (forest : Forest) (steps' : List Step) (behind : ℕ) : Type 0 where
  pub is_order : nodes_in steps' ≡ sets (nodes_in steps) at (nodes forest)
  pub is_end : ends_in steps' ≡ sets (ends_in steps) at (ends at forest)
  pub is_behind : behind ≡ at + length (nodes forest)
