-- `hang::hang` meets its contract: it writes the record that document 01 asks for, and the root's level. Assumes nothing.
use mathlib.Core.Path.{◌≡◌, ◌∙◌, ap}
use native.Mathlib.Omega.{arith}
use borrow.Author.Rules.{rules}
use lib.IntN.{pos, negsuc, ◌+ℤ◌}
use lib.Signed.{◌≤ℤ◌}
use mir.Syntax.{w32}
use mir.Val.{to_z, of_z}
use mir.ValLaws.{to_z-of_z}
use Rattle.std.specs.Int.{int_max}
use Rattle.std.proofs.lemmas.Int.{ints}
use Rattle.profile.proofs.Levels.{level_span}
use Rattle.image.specs.Fields.{root_of, level_at}
use Rattle.content.proofs.Levels.{fitting_span}
use Rattle.adding.proofs.Hangs.{seat_below, higher_max, hung_by}
use Rattle.adding.proofs.hang.hang.Goals as goal
use Rattle.adding.proofs.hang.hang.Goals.{After-level}

-- the new level, and the root's
new_span : (c : After-level) → (negsuc 0 ≤ℤ c.fitting_level-level.result) × (c.fitting_level-level.result ≤ℤ pos 19)
new_span c = rw c.fitting_level-level.ensures (fitting_span c.args.seat.distance c.requires.away c.args.seat.near)

root_span : (c : After-level) → (negsuc 0 ≤ℤ c.level.result) × (c.level.result ≤ℤ pos 20)
root_span c = rw c.level.ensures (level_span (c.requires.filled.level_in c.root-root.result (omega (arith, c.root-root.ensures.0, c.requires.filled.root_in))))

pub overflow_add-level : goal.overflow_add-level
overflow_add-level c = let s = new_span c in omega (arith, ints)

pub invariant_of-fields : goal.invariant_of-fields
invariant_of-fields c =
    let s = new_span (goal.at.invariant_of-fields c).After-level in
    record {
      parent_fits = omega (arith, seat_below c.requires.filled c.requires.seated);
      least = omega (arith, ints);
      most = omega (arith, ints);
    }

pub put_level-requires : goal.put_level-requires
put_level-requires c =
    let s = new_span (goal.at.put_level-requires c).After-level in
    let r = root_span (goal.at.put_level-requires c).After-level in
    (search rules, grind (arith, ints), grind (arith, ints))

pub returns : goal.returns
returns c =
    let l = c.fitting_level-level in let r = c.level in let top = c.max-top in
    let s = new_span (goal.at.returns c).After-level in
    let l_read : to_z w32 (of_z w32 l.result) ≡ l.result = to_z-of_z w32 _ (search rules) in
    let r_read : to_z w32 (of_z w32 r.result) ≡ level_at c.args.image.now (root_of c.args.image.now) = to_z-of_z w32 _ (search rules) ∙ r.ensures ∙ ap (level_at c.args.image.now) c.root-root.ensures.0 in
    let raised : top.result ≡ int_max (level_at c.args.image.now (root_of c.args.image.now)) (l.result +ℤ pos 1) = grind (arith, ints, r_read) in
    let top_read : to_z w32 (of_z w32 top.result) ≡ top.result = to_z-of_z w32 _ (search rules) in
    hung_by c.requires.filled c.requires.inside c.args.strain.code c.args.strain.profile.now c.args.seat c.requires.seated c.requires.away (search rules) c.requires.fits c.put.ensures.values
    c.put.new.image c.put_level.new.image l.result top.result l.ensures (raised ∙ higher_max _ _) (rw l_read at c.put.ensures.exact) (rw (top_read, c.root-root.ensures.0) at c.put_level.ensures)
