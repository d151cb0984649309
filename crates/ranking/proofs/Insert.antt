-- An element put into a list: what it adds, and where it goes. Assumes nothing.
use mathlib.Core.Path.{◌≡◌, refl, sym, ap, ◌∙◌}
use mathlib.Core.Logic.{◌≢◌, ◌⊎◌, inl, inr}
use mathlib.Core.Bool.{Bool, true, false}
use mathlib.Core.List.{List, [], ◌∷◌, ◌++◌, map, Memᴰ}
use mathlib.Core.List.Memᴰ
use Prim.Native.Nat.{ℕ, suc, ◌≤◌, ◌<◌}
use native.Mathlib.Omega.{arith}
use lib.Dec.{ltb}
use lib.ListN.{length}
use borrow.Author.Tests.{ltb-true, ltb-false, lt-ltb, le-ltb}
use Rattle.ranking.specs.Sort.{insert}
use Rattle.ranking.specs.Order.{Ascending, Distinct}

-- by cases: the numbers come first, so that the types of both arms are known
pub split : {C : Type 0} (a b : ℕ) → (a < b → C) → (b ≤ a → C) → C
split {C} a b f g = go (ltb a b) refl
  where
    go : (t : Bool) → ltb a b ≡ t → C
    go true e = f (ltb-true a b e)
    go false e = g (ltb-false a b e)

module _ {A : Type 0} (key : A → ℕ) where
  pub insert_before : (x y : A) (ys : List A) → key x < key y → insert key x (y ∷ ys) ≡ x ∷ y ∷ ys
  unfolding insert
  insert_before x y ys h = rw (lt-ltb (key x) (key y) h)

  pub insert_after : (x y : A) (ys : List A) → key y ≤ key x → insert key x (y ∷ ys) ≡ y ∷ insert key x ys
  unfolding insert
  insert_after x y ys h = rw (le-ltb (key x) (key y) h)

  pub insert_length : (x : A) (ys : List A) → length (insert key x ys) ≡ suc (length ys)
  unfolding insert
  insert_length x [] = refl
  insert_length x (y ∷ ys) =
      split (key x) (key y) (λ h. rw (insert_before x y ys h)) (λ h. rw (insert_after x y ys h) (ap suc (insert_length x ys)))

  -- the element put in is there
  pub insert_new : (x : A) (ys : List A) → Memᴰ x (insert key x ys)
  unfolding insert
  insert_new x [] = Memᴰ.head refl
  insert_new x (y ∷ ys) =
      split (key x) (key y) (λ h. rw (insert_before x y ys h) (Memᴰ.head refl))
      (λ h. rw (insert_after x y ys h) (Memᴰ.tail (insert_new x ys)))

  -- and so is all that was there
  pub insert_old : (x : A) (ys : List A) {a : A} → Memᴰ a ys → Memᴰ a (insert key x ys)
  insert_old x [] {a = a} m = elim m [ ]
  insert_old x (y ∷ ys) {a} m =
      split (key x) (key y) (λ h. rw (insert_before x y ys h) (Memᴰ.tail m))
      (λ h. rw (insert_after x y ys h) (put (insert_old x ys) m))
    where
      put : (Memᴰ a ys → Memᴰ a (insert key x ys)) → Memᴰ a (y ∷ ys) → Memᴰ a (y ∷ insert key x ys)
      put below (Memᴰ.head e) = Memᴰ.head e
      put below (Memᴰ.tail n) = Memᴰ.tail (below n)

  -- and nothing else
  pub insert_mem : (x : A) (ys : List A) {a : A} → Memᴰ a (insert key x ys) → (a ≡ x) ⊎ Memᴰ a ys
  unfolding insert
  insert_mem x [] m = Memᴰ.cases_cons m
  insert_mem x (y ∷ ys) {a} m =
      split (key x) (key y) (λ h. Memᴰ.cases_cons (rw (insert_before x y ys h) at m))
      (λ h. later (insert_mem x ys) (rw (insert_after x y ys h) at m))
    where
      shift : (a ≡ x) ⊎ Memᴰ a ys → (a ≡ x) ⊎ Memᴰ a (y ∷ ys)
      shift (inl e) = inl e
      shift (inr n) = inr (Memᴰ.tail n)

      later : (Memᴰ a (insert key x ys) → (a ≡ x) ⊎ Memᴰ a ys) → Memᴰ a (y ∷ insert key x ys) → (a ≡ x) ⊎ Memᴰ a (y ∷ ys)
      later below (Memᴰ.head e) = inr (Memᴰ.head e)
      later below (Memᴰ.tail n) = shift (below n)

  pub insert_ascending : (x : A) {ys : List A} → Ascending key ys → Ascending key (insert key x ys)
  unfolding insert
  insert_ascending x Ascending.none = Ascending.next (λ y m. absurd (Memᴰ.not-nil m)) Ascending.none
  insert_ascending x (Ascending.next {x = y} {xs = ys} low up) =
      split (key x) (key y)
      (λ h. rw (insert_before x y ys h) (Ascending.next (λ z m. under z h (Memᴰ.cases_cons m)) (Ascending.next low up)))
      (λ h. rw (insert_after x y ys h) (Ascending.next (λ z m. over z h (insert_mem x ys m)) (insert_ascending x up)))
    where
      under : (z : A) → key x < key y → (z ≡ y) ⊎ Memᴰ z ys → key x ≤ key z
      under z h (inl e) = omega (arith, ap key e)
      under z h (inr m) = omega (arith, low z m)

      over : (z : A) → key y ≤ key x → (z ≡ x) ⊎ Memᴰ z ys → key y ≤ key z
      over z h (inl e) = omega (arith, ap key e)
      over z h (inr m) = low z m

  pub insert_distinct : (x : A) {ys : List A} → ((y : A) → Memᴰ y ys → key x ≢ key y) → Distinct key ys → Distinct key (insert key x ys)
  unfolding insert
  insert_distinct x new Distinct.none = Distinct.next new Distinct.none
  insert_distinct x new (Distinct.next {x = y} {xs = ys} other rest) =
      split (key x) (key y)
      (λ h. rw (insert_before x y ys h) (Distinct.next new (Distinct.next other rest)))
      (λ h. rw (insert_after x y ys h)
      (Distinct.next (λ z m. over z (insert_mem x ys m)) (insert_distinct x (λ z m. new z (Memᴰ.tail m)) rest)))
    where
      over : (z : A) → (z ≡ x) ⊎ Memᴰ z ys → key y ≢ key z
      over z (inl e) = λ q. new y (Memᴰ.head refl) (sym (ap key e) ∙ sym q)
      over z (inr m) = other z m

  -- what no key exceeds goes last
  pub insert_last : (x : A) (ys : List A) → ((y : A) → Memᴰ y ys → key y ≤ key x) → insert key x ys ≡ ys ++ x ∷ []
  unfolding insert
  insert_last x [] low = refl
  insert_last x (y ∷ ys) low =
      rw (insert_after x y ys (low y (Memᴰ.head refl)))
      (ap (λ (zs : List A). y ∷ zs) (insert_last x ys (λ z m. low z (Memᴰ.tail m))))

  -- before a higher key, whatever follows that
  pub insert_within : (x z : A) (ys zs : List A) → key x < key z → insert key x (ys ++ z ∷ zs) ≡ insert key x ys ++ z ∷ zs
  unfolding insert
  insert_within x z [] zs h = insert_before x z zs h
  insert_within x z (y ∷ ys) zs h =
      split (key x) (key y) (λ l. rw (insert_before x y ys l, insert_before x y (ys ++ z ∷ zs) l))
      (λ l. rw (insert_after x y ys l, insert_after x y (ys ++ z ∷ zs) l) (ap (λ (ws : List A). y ∷ ws) (insert_within x z ys zs h)))

  -- a key that tells x from each element in the same way puts it in the same place
  pub insert_same_order : (key' : A → ℕ) (x : A) (ys : List A)
      → ((y : A) → Memᴰ y ys → ltb (key x) (key y) ≡ ltb (key' x) (key' y))
      → insert key x ys ≡ insert key' x ys
  unfolding insert
  insert_same_order key' x [] same = refl
  insert_same_order key' x (y ∷ ys) same =
      rw (same y (Memᴰ.head refl), insert_same_order key' x ys (λ z m. same z (Memᴰ.tail m)))

pub insert_map : {A B : Type 0} (f : A → B) (key : B → ℕ) (x : A) (ys : List A)
    → map f (insert (λ a. key (f a)) x ys) ≡ insert key (f x) (map f ys)
unfolding insert
insert_map f key x [] = refl
insert_map {A} {B} f key x (y ∷ ys) =
    split (key (f x)) (key (f y))
    (λ h. rw (insert_before (λ (a : A). key (f a)) x y ys h, insert_before key (f x) (f y) (map f ys) h))
    (λ h. rw (insert_after (λ (a : A). key (f a)) x y ys h, insert_after key (f x) (f y) (map f ys) h) (ap (λ (zs : List B). f y ∷ zs) (insert_map f key x ys)))
