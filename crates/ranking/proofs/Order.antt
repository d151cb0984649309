-- Lists in ascending order, and lists with no key twice: what their fronts keep, and that members alone decide them. Assumes nothing.
use mathlib.Core.Path.{◌≡◌, refl, sym, ap, ap₂, ◌∙◌}
use mathlib.Core.Logic.{◌≢◌}
use mathlib.Core.List.{List, [], ◌∷◌, ◌++◌, Memᴰ}
use mathlib.Core.List.Memᴰ
use Prim.Native.Nat.{ℕ, ◌≤◌}
use native.Mathlib.Nat.{le_antisymm, le_of_eq}
use lib.ListN.{take, drop, take-append-drop}
use lib.Seq.{take-take}
use Rattle.ranking.specs.Order.{Ascending, Distinct}

module _ {A : Type 0} {key : A → ℕ} where
  -- the front of a list in order is in order
  pub ascending_front : (xs ys : List A) → Ascending key (xs ++ ys) → Ascending key xs
  ascending_front [] ys up = Ascending.none
  ascending_front (x ∷ xs) ys (Ascending.next low up) = Ascending.next (λ y m. low y (Memᴰ.append_left ys m)) (ascending_front xs ys up)

  pub ascending_take : (k : ℕ) {xs : List A} → Ascending key xs → Ascending key (take k xs)
  ascending_take k {xs} up = ascending_front (take k xs) (drop k xs) (rw take-append-drop up)

  pub ascending_fewer : (i j : ℕ) (xs : List A) → i ≤ j → Ascending key (take j xs) → Ascending key (take i xs)
  ascending_fewer i j xs h up = rw (← take-take i j xs h) (ascending_take i up)

  -- and none of its keys exceeds a later one
  pub ascending_below : (xs ys : List A) {a b : A} → Ascending key (xs ++ ys) → Memᴰ a xs → Memᴰ b ys → key a ≤ key b
  ascending_below [] ys {a = a} {b = b} _ x4 n = elim x4 [ ]
  ascending_below (x ∷ xs) ys {b = b} (Ascending.next low up) (Memᴰ.head e) n = rw e (low b (Memᴰ.append_right xs n))
  ascending_below (x ∷ xs) ys (Ascending.next low up) (Memᴰ.tail m) n = ascending_below xs ys up m n

  pub distinct_front : (xs ys : List A) → Distinct key (xs ++ ys) → Distinct key xs
  distinct_front [] ys d = Distinct.none
  distinct_front (x ∷ xs) ys (Distinct.next other d) = Distinct.next (λ y m. other y (Memᴰ.append_left ys m)) (distinct_front xs ys d)

  pub distinct_apart : (xs ys : List A) {a b : A} → Distinct key (xs ++ ys) → Memᴰ a xs → Memᴰ b ys → key a ≢ key b
  distinct_apart [] ys {a = a} {b = b} _ x4 n = elim x4 [ ]
  distinct_apart (x ∷ xs) ys {b = b} (Distinct.next other d) (Memᴰ.head e) n = rw e (other b (Memᴰ.append_right xs n))
  distinct_apart (x ∷ xs) ys (Distinct.next other d) (Memᴰ.tail m) n = distinct_apart xs ys d m n

  -- the first of a list in order has the least key
  least : {x y : A} {xs : List A} → Ascending key (x ∷ xs) → Memᴰ y (x ∷ xs) → key x ≤ key y
  least (Ascending.next low up) (Memᴰ.head e) = le_of_eq (sym (ap key e))
  least {y = y} (Ascending.next low up) (Memᴰ.tail m) = low y m

  -- and no other has it
  only : {x y : A} {xs : List A} → Distinct key (x ∷ xs) → Memᴰ y (x ∷ xs) → key x ≡ key y → y ≡ x
  only d (Memᴰ.head e) q = e
  only {y = y} (Distinct.next other d) (Memᴰ.tail m) q = absurd (other y m q)

  -- what both lists have behind the first
  behind : {x y a : A} {xs ys : List A} → Distinct key (x ∷ xs) → y ≡ x → Memᴰ a xs → Memᴰ a (y ∷ ys) → Memᴰ a ys
  behind {a = a} (Distinct.next other d) p m (Memᴰ.head e) = absurd (other a m (sym (ap key (e ∙ p))))
  behind d p m (Memᴰ.tail n) = n

  rest_ascending : {x : A} {xs : List A} → Ascending key (x ∷ xs) → Ascending key xs
  rest_ascending (Ascending.next low up) = up

  rest_distinct : {x : A} {xs : List A} → Distinct key (x ∷ xs) → Distinct key xs
  rest_distinct (Distinct.next other d) = d

  -- two lists in order, with no key twice, that have the same members are one list
  pub ascending_one : {xs ys : List A} → Ascending key xs → Ascending key ys → Distinct key xs → Distinct key ys
      → ((a : A) → Memᴰ a xs → Memᴰ a ys)
      → ((a : A) → Memᴰ a ys → Memᴰ a xs)
      → xs ≡ ys
  ascending_one {xs = []} {ys = []} u v d e there back = refl
  ascending_one {xs = []} {ys = y ∷ ys} u v d e there back = absurd (Memᴰ.not-nil (back y (Memᴰ.head refl)))
  ascending_one {xs = x ∷ xs} {ys = []} u v d e there back = absurd (Memᴰ.not-nil (there x (Memᴰ.head refl)))
  ascending_one {xs = x ∷ xs} {ys = y ∷ ys} u v d e there back =
      let k : key x ≡ key y = le_antisymm (least u (back y (Memᴰ.head refl))) (least v (there x (Memᴰ.head refl))) in
      let p : y ≡ x = only d (back y (Memᴰ.head refl)) k in
      ap₂ {C = List A} (λ z zs. z ∷ zs) (sym p)
      (ascending_one {xs = xs} (rest_ascending u) (rest_ascending v) (rest_distinct d) (rest_distinct e)
      (λ a m. behind d p m (there a (Memᴰ.tail m)))
      (λ a m. behind e (sym p) m (back a (Memᴰ.tail m))))
