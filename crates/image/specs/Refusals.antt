-- The number and the place of each refusal, as document 01's table has them. Assumes nothing.
use Rattle.std.specs.Prelude.{ℕ}
use Rattle.image.specs.declared.refusal.Place.{Place}
use Rattle.image.specs.declared.refusal.Refusal.{Refusal}
use Rattle.image.specs.declared.refusal.Refusal.TheVariants.{Size, Edition, Wells, Metric, Count, Offsets, Length, RootNumber, Node, EqualCodes, Level, Cover, Separation, Plate, Neighbours, Room, NewProfile, NewCode, Held, Full}

abbrev pub number_of : Refusal → ℕ
number_of (Size p) = 1
number_of (Edition p) = 2
number_of (Wells p) = 3
number_of (Metric p) = 4
number_of (Count p) = 5
number_of (Offsets p) = 6
number_of (Length p) = 7
number_of (RootNumber p) = 8
number_of (Node p) = 9
number_of (EqualCodes p) = 10
number_of (Level p) = 11
number_of (Cover p) = 12
number_of (Separation p) = 13
number_of (Plate p) = 14
number_of (Neighbours p) = 15
number_of (Room p) = 16
number_of (NewProfile p) = 17
number_of (NewCode p) = 18
number_of (Held p) = 19
number_of (Full p) = 20

abbrev pub place_of : Refusal → Place
place_of (Size p) = p
place_of (Edition p) = p
place_of (Wells p) = p
place_of (Metric p) = p
place_of (Count p) = p
place_of (Offsets p) = p
place_of (Length p) = p
place_of (RootNumber p) = p
place_of (Node p) = p
place_of (EqualCodes p) = p
place_of (Level p) = p
place_of (Cover p) = p
place_of (Separation p) = p
place_of (Plate p) = p
place_of (Neighbours p) = p
place_of (Room p) = p
place_of (NewProfile p) = p
place_of (NewCode p) = p
place_of (Held p) = p
place_of (Full p) = p
