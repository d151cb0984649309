-- A record written behind the others, and the root raised above it: the content has a strain more. Assumes nothing.
use mathlib.Core.Path.{◌≡◌, refl, sym, ◌∙◌, ap, subst}
use mathlib.Core.Logic.{◌≢◌, inl, inr, ⊎_elim}
use mathlib.Core.List.{List}
use Prim.Native.Nat.{ℕ, suc, ◌+◌, ◌*◌, ◌<◌}
use native.Mathlib.Decide.{ℕ_discrete}
use native.Mathlib.Omega.{arith}
use lib.IntN.{ℤ, pos, negsuc, suc_ℤ, ◌+ℤ◌}
use Rattle.std.specs.Int.{int_max}
use Rattle.std.proofs.lemmas.Int.{ints}
use lib.ListN.{length, get_or, set}
use lib.Seq.{ext_get_or, sets}
use lib.Signed.{◌≤ℤ◌}
use Rattle.profile.specs.Distance.{Wells, Profile}
use Rattle.profile.specs.Bytes.{wells_at}
use Rattle.profile.specs.Level.{level_of, fitting_level}
use Rattle.profile.proofs.Levels.{level_span}
use Rattle.profile.proofs.Signs.{le_parts, parts_le}
use Rattle.tree.specs.Grow.{higher}
use Rattle.image.specs.Fields.{metric_of, root_of, level_at, spare_at, profile_start, profile_at, size_of}
use Rattle.image.specs.Strains.{Strain, strain_at}
use Rattle.image.proofs.Sizes.{row_in}
use Rattle.content.specs.Content.{Kept, Content, nth, no_record, kept_of, record_at, records_of, first_of}
use Rattle.content.specs.Bytes.{level_byte_of, node_bytes, profile_bytes, Roomy}
use Rattle.content.specs.Adding.{distance_to, parent_for, level_for, raised, added}
use Rattle.content.proofs.Records.{records_length, record_is}
use Rattle.content.proofs.Numbers.{level_of_byte}
use Rattle.content.proofs.Same.{NodeSame, node_same, NodeButLevel, node_but_level, HeaderSame, header_same, wells_same, node_written, profile_written}
use Rattle.content.proofs.Taker.{taker_is}
use Rattle.content.proofs.Levels.{Storable, fitting_storable, raised_storable}
use Rattle.content.proofs.Added.{added_length, added_old, added_root, added_new}
use Rattle.adding.specs.Filled.{Filled}
use Rattle.adding.specs.Steps.{Seated, Hung}
use Rattle.adding.specs.declared.seat.Seat.{Seat}
use Rattle.adding.proofs.Puts.{Put, put}

module _ {xs ys : List ℕ} {metric wells count k : ℕ} (f : Filled xs metric wells count k) (r : Kept) (top : ℤ) (p : Put xs ys wells count k r top)
    (inside : k < count) where
  header : (j : ℕ) → j < 16 → get_or ys j 0 ≡ get_or xs j 0
  header j h = p.else j (λ e. absurd (omega arith)) (inl (omega arith)) (inl (omega arith))

  fields : HeaderSame xs ys
  fields = header_same xs ys header

  -- the old nodes, and the root's
  old_node : (i : ℕ) → i < k → i ≢ root_of xs → NodeSame xs ys i
  old_node i h ne = node_same xs ys i (λ j l. p.else (16 + 8 * i + j) (λ e. ne (omega arith)) (inl (omega arith)) (inl (omega arith)))

  root_node_lem : NodeButLevel xs ys (root_of xs)
  root_node_lem = node_but_level xs ys (root_of xs) (λ j l n. p.else (16 + 8 * root_of xs + j) (λ e. n (omega arith)) (inl (omega (arith, f.root_in))) (inl (omega (arith, f.root_in))))

  -- the old profiles
  old_wells : (i : ℕ) → i < k → wells_at ys (profile_start count wells i) wells ≡ wells_at xs (profile_start count wells i) wells
  old_wells i h =
      wells_same xs ys (profile_start count wells i) (profile_start count wells i) wells
      (λ j l. p.else (profile_start count wells i + j) (λ e. absurd (omega (arith, f.root_in))) (inr (omega arith)) (inl (omega (arith, row_in wells h))))

  old_profile : (i : ℕ) → i < k → profile_at ys i ≡ profile_at xs i
  unfolding profile_at
  old_profile i h = rw (fields.count, fields.wells, ← f.is_count, ← f.is_wells) (old_wells i h)

  -- the new profile
  new_profile_lem : Profile wells r.strain.profile → profile_at ys k ≡ r.strain.profile
  unfolding profile_at
  new_profile_lem h =
      rw (fields.count, fields.wells, ← f.is_count, ← f.is_wells) (profile_written ys (profile_start count wells k) wells r.strain.profile h p.profile)

  old_record : (i : ℕ) → i < k → i ≢ root_of xs → record_at ys i ≡ record_at xs i
  old_record i h ne =
      let n = old_node i h ne in
      λ t. record { strain = record { code = n.code t; profile = old_profile i h t }; parent = n.parent t; level = level_of (n.level_byte t) }

  root_record : negsuc 0 ≤ℤ top → record_at ys (root_of xs) ≡ record { strain = strain_at xs (root_of xs); parent = (record_at xs (root_of xs)).parent; level = top }
  root_record l =
      let n = root_node_lem in
      let e : level_at ys (root_of xs) ≡ top = ap level_of p.root_level ∙ level_of_byte top l in
      λ t. record { strain = record { code = n.code t; profile = old_profile (root_of xs) f.root_in t }; parent = n.parent t; level = e t }

  new_record_lem : Roomy wells r → record_at ys k ≡ r
  new_record_lem h =
      let n = node_written ys k wells r h p.node in
      λ t. record { strain = record { code = n.code t; profile = new_profile_lem h.profile t }; parent = n.parent t; level = n.level t }

  spares : (i : ℕ) → i < k → spare_at ys i ≡ spare_at xs i
  spares i h = go (ℕ_discrete i (root_of xs))
    where
      go : Dec (i ≡ root_of xs) → spare_at ys i ≡ spare_at xs i
      go (yes e) = rw e root_node_lem.spare
      go (no ne) = (old_node i h ne).spare

-- the record that document 01 asks for, and the root's level
abbrev new_record : Content → Strain → Kept
new_record c s = record { strain = s; parent = parent_for c s.profile; level = level_for c s.profile }

abbrev top_level : List ℕ → Content → Strain → ℤ
top_level xs c s = higher (level_at xs (root_of xs)) (suc_ℤ (level_for c s.profile))

module _ {xs ys : List ℕ} {metric wells count k : ℕ} (f : Filled xs metric wells count k) (s : Strain) (inside : k < count)
    (p : Put xs ys wells count k (new_record (first_of xs k) s) (top_level xs (first_of xs k) s)) (roomy : Roomy wells (new_record (first_of xs k) s))
    (least : negsuc 0 ≤ℤ top_level xs (first_of xs k) s) where
  count_is : length (first_of xs k).records ≡ k
  count_is = records_length xs k

  first_is : (i : ℕ) → i < k → nth (first_of xs k).records i ≡ record_at xs i
  first_is i h = record_is xs k i h

  root_is : (first_of xs k).root ≡ root_of xs
  root_is = refl

  root_raised : nth (added (first_of xs k) s).records (root_of xs) ≡ raised (level_for (first_of xs k) s.profile) (record_at xs (root_of xs))
  root_raised =
      subst (λ (n : ℕ). nth (added (first_of xs k) s).records n ≡ raised (level_for (first_of xs k) s.profile) (nth (first_of xs k).records n)) root_is
      (added_root (first_of xs k) s (omega (arith, root_is, count_is, f.root_in)))
      ∙ ap (raised (level_for (first_of xs k) s.profile)) (first_is (root_of xs) f.root_in)

  record_at_lem : (i : ℕ) → i < suc k → Dec (i ≡ k) → Dec (i ≡ root_of xs) → record_at ys i ≡ nth (added (first_of xs k) s).records i
  unfolding raised
  record_at_lem i g (yes e) _ =
      rw e (new_record_lem f _ _ p inside roomy ∙ sym (subst (λ (n : ℕ). nth (added (first_of xs k) s).records n ≡ new_record (first_of xs k) s) count_is (added_new (first_of xs k) s)))
  record_at_lem i g (no ne) (yes e) =
      rw e (root_record f _ _ p inside least ∙ sym root_raised)
  record_at_lem i g (no ne) (no nr) =
      old_record f _ _ p inside i (omega (arith, ne)) nr
      ∙ sym (added_old (first_of xs k) s i (omega (arith, ne, count_is)) (λ e. nr (e ∙ root_is)) ∙ first_is i (omega (arith, ne)))

  records_are : records_of ys (suc k) ≡ (added (first_of xs k) s).records
  records_are =
      ext_get_or no_record _ _ (records_length ys (suc k) ∙ sym (added_length (first_of xs k) s ∙ ap suc count_is))
      (λ i h. let g : i < suc k = omega (arith, records_length ys (suc k)) in record_is ys (suc k) i g ∙ record_at_lem i g (ℕ_discrete i k) (ℕ_discrete i (root_of xs)))

  hung : Hung xs ys (size_of wells count) k s
  unfolding added
  hung =
      let h = fields f _ _ p inside in
      record {
        says = λ t. record { wells = h.wells t; metric = h.metric t; root = h.root t; records = records_are t };
        long = p.size;
        header = header f _ _ p inside;
        behind = λ j g. p.else j (λ e. absurd (omega (arith, f.root_in))) (inr (omega arith)) (inr (omega (arith, row_in wells inside)));
        spare = spares f _ _ p inside;
        new_spare = (node_written ys k wells _ roomy p.node).spare;
      }

-- the higher of the root's level and the new one plus 1, as the code works it out
pub higher_max : (a e : ℤ) → int_max a (e +ℤ pos 1) ≡ higher a (suc_ℤ e)
unfolding higher
higher_max a e = grind (arith, ints)

-- the parent is one of the filled records
pub seat_below : {xs : List ℕ} {metric wells count k : ℕ} {x : List ℤ} {seat : Seat} → Filled xs metric wells count k
    → Seated metric x (nth (first_of xs k).records) seat (parent_for (first_of xs k) x) → seat.parent < k
unfolding parent_for
seat_below {xs} {k = k} {x = x} f s =
    rw s.parent
    (⊎_elim (λ (e : parent_for (first_of xs k) x ≡ root_of xs). rw e f.root_in) (λ h. omega (arith, h.0, records_length xs k))
    (taker_is (metric_of xs) x (root_of xs) (nth (records_of xs k)) (length (records_of xs k))).can)

-- what `hang` does
module _ {xs : List ℕ} {metric wells count k : ℕ} (f : Filled xs metric wells count k) (inside : k < count) (code : ℕ) (x : List ℤ) (seat : Seat)
    (s : Seated metric x (nth (first_of xs k).records) seat (parent_for (first_of xs k) x)) (away : 0 < seat.distance)
    (code_fits : code < 4294967296) (long : length x ≡ wells) (values : Wells x) where
  abbrev strain : Strain
  strain = record { code = code; profile = x }

  level_is : level_for (first_of xs k) x ≡ fitting_level seat.distance
  unfolding level_for
  level_is =
      (λ i. fitting_level (distance_to (sym f.is_metric i) x (nth (records_of xs k) (parent_for (first_of xs k) x)))) ∙ ap fitting_level (sym s.distance)

  storable : Storable (level_for (first_of xs k) x)
  storable = rw level_is (fitting_storable seat.distance away seat.near)

  roomy : Roomy wells (new_record (first_of xs k) strain)
  roomy = record {
    code = code_fits;
    profile = record { count = long; values = values };
    parent = rw (← s.parent) (omega (arith, seat_below f s, f.filled_in, f.count_high));
    least = storable.least;
    most = parts_le (level_for (first_of xs k) x) (pos 254) (omega (arith, le_parts storable.most));
  }

  top_least : negsuc 0 ≤ℤ top_level xs (first_of xs k) strain
  top_least =
      let b = level_span (f.level_in (root_of xs) f.root_in) in
      rw level_is (raised_storable (level_at xs (root_of xs)) seat.distance (record { least = b.0; most = b.1 }) away seat.near).least

  pub hung_by : (mid ys : List ℕ) (level top : ℤ) → level ≡ fitting_level seat.distance → top ≡ higher (level_at xs (root_of xs)) (suc_ℤ level)
      → mid ≡ sets (sets xs (16 + 8 * k) (node_bytes (kept_of code x seat.parent level))) (profile_start count wells k) (profile_bytes x)
      → ys ≡ set mid (22 + 8 * root_of xs) (level_byte_of top) → Hung xs ys (size_of wells count) k (record { code = code; profile = x })
  hung_by mid ys level top l t m y =
      hung f strain inside
      (put f inside (new_record (first_of xs k) strain) (top_level xs (first_of xs k) strain) long ys (y ∙ (λ i. set (written i) (22 + 8 * root_of xs) (level_byte_of (over i)))))
      roomy top_least
    where
      same : level ≡ level_for (first_of xs k) x
      same = l ∙ sym level_is

      over : top ≡ top_level xs (first_of xs k) strain
      over = t ∙ ap (λ (e : ℤ). higher (level_at xs (root_of xs)) (suc_ℤ e)) same

      written : mid ≡ sets (sets xs (16 + 8 * k) (node_bytes (new_record (first_of xs k) strain))) (profile_start count wells k) (profile_bytes x)
      written =
          m
          ∙ (λ i. sets (sets xs (16 + 8 * k) (node_bytes (kept_of code x (s.parent i) (same i)))) (profile_start count wells k) (profile_bytes x))
