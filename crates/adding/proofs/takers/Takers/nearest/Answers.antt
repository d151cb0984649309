use native.Mathlib.Omega.{arith}
use borrow.Author.Rules.{rules}
use Rattle.std.proofs.lemmas.Fn.{always_returns_same}
use Rattle.adding.proofs.Seats.{first_seat, better_of, skipped, best_is}
use Rattle.adding.proofs.takers.Takers.nearest.Goals as goal

pub loop-i-init : goal.loop-i-init
loop-i-init c = record { inside = omega arith; best = first_seat _ _ _ _ _ c.root.ensures.0 c.seat_at-best.ensures }

pub loop-i-preserved : goal.loop-i-preserved
loop-i-preserved c =
    let n = c.in-Some.ensures in
    let r = c.min_by_key-best.ensures (λ s. (s.distance, s.code)) (always_returns_same _ _ _ (λ a r f k. search rules)) in
    record { inside = omega (arith, n.inside); best = better_of _ _ _ _ c.in-Some.i c.seat_at.result c.loop-i.best n.near c.seat_at.ensures (skipped _ _ _ _ _ _ n.onward n.beyond c.loop-i.invariant.best) r }

pub returns : goal.returns
returns c =
    let t = c.args.self.now in
    best_is t.are_filled _ (skipped _ _ _ _ _ _ c.loop-i.invariant.inside c.in_default.ensures c.loop-i.invariant.best)
