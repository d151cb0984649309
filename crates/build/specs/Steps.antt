-- What the steps inside the calls promise each other. Assumes nothing.
use Rattle.std.specs.Prelude.{◌≡◌, Result, Ok, Err, List, ℕ, ℤ}
use Rattle.image.specs.declared.refusal.Refusal.{Refusal}
use Rattle.image.specs.Refusals.{number_of, place_of}
use Rattle.image.specs.Verdict.{refused, judge}
use Rattle.adding.specs.Steps.{SeatFor}
use Rattle.adding.specs.declared.seat.Seat.{Seat}
use Rattle.build.specs.Rules.{room_rules, strain_rules}

-- a strain against which nothing but want of room can be said, and the seat that it can have
pub record Welcome (xs : List ℕ) (code : ℕ) (profile : List ℤ) (seat : Seat) : Type 0 where
  pub passes : (room : ℕ) → judge (strain_rules xs code profile room) ≡ judge (room_rules xs room)
  pub seat_for : SeatFor xs profile seat

-- why a strain is refused, whatever the room; or the seat that it can have
unfoldable pub Offered : List ℕ → (code : ℕ) → List ℤ → Result Seat Refusal → Type 0
Offered xs code profile (Err r) = (room : ℕ) → judge (strain_rules xs code profile room) ≡ refused (number_of r) (place_of r)
Offered xs code profile (Ok seat) = Welcome xs code profile seat
