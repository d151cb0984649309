-- Adding a strain to an accepted library gives an accepted library. Assumes nothing.
use mathlib.Core.Path.{◌≡◌, refl, sym, ◌∙◌, ap, subst}
use mathlib.Core.Logic.{◌≢◌, ◌⊎◌, inl, inr, ⊎_elim}
use mathlib.Core.Bool.{true}
use mathlib.Core.List.{List}
use Prim.Native.Nat.{ℕ, suc, ◌*◌, ◌≤◌, ◌<◌}
use native.Mathlib.Nat.{lt_of_not-le}
use native.Mathlib.Decide.{ℕ_discrete, dec_le}
use native.Mathlib.Omega.{arith}
use lib.Dec.{leb}
use lib.IntN.{ℤ, pos, suc_ℤ}
use lib.ListN.{length}
use lib.Signed.{◌≤ℤ◌}
use borrow.Author.Tests.{leb-true}
use Rattle.profile.specs.Distance.{Profile, distance}
use Rattle.profile.specs.Level.{cover_limit, fitting_level}
use Rattle.profile.proofs.Distances.{distance_most}
use Rattle.profile.proofs.Levels.{at_most_level, level_span}
use Rattle.profile.proofs.Signs.{le_parts, parts_le}
use Rattle.tree.specs.Grow.{higher, CanTake, NearestTaker, Grown}
use Rattle.tree.proofs.Grow.{grown_tree}
use Rattle.image.specs.Fields.{wells_of, metric_of, count_of, root_of, code_at, parent_at, level_byte_at, level_at, profile_at}
use Rattle.image.specs.Strains.{Strain, strain_at}
use Rattle.image.specs.Library.{Layout, tree_of, Library}
use Rattle.image.proofs.Trees.{library_metric, profile_length}
use Rattle.image.proofs.Tests.{told_true, tells_le}
use Rattle.content.specs.Content.{Kept, Content, nth, record_at, content_of}
use Rattle.content.specs.Bytes.{bytes_of, Bytes, Roomy, Writable}
use Rattle.content.specs.Adding.{distance_to, near_enough, parent_for, level_for, raised, added}
use Rattle.content.proofs.Records.{content_count, content_nth}
use Rattle.content.proofs.Bytes.{header_is, record_written, bytes_framed, content_writable}
use Rattle.content.proofs.Taker.{Taker, tells_nearer, taker_is, as_far}
use Rattle.content.proofs.Levels.{Storable, fitting_storable, raised_storable, storable_byte}
use Rattle.content.proofs.Added.{added_length, added_old, added_root, added_new}

-- a strain that a library does not hold, and could
pub record Fresh (xs : List ℕ) (s : Strain) : Type 0 where
  pub room : count_of xs < 1024
  pub code : s.code ≢ 0
  pub code_fits : s.code < 4294967296
  pub profile : Profile (wells_of xs) s.profile
  pub new_code : (i : ℕ) → i < count_of xs → code_at xs i ≢ s.code
  pub new_profile : (i : ℕ) → i < count_of xs → profile_at xs i ≢ s.profile

module _ (xs : List ℕ) (l : Library xs) (x : List ℤ) where
  -- the parent's record number
  abbrev v : ℕ
  v = parent_for (content_of xs) x

  taker : Taker (metric_of xs) x (root_of xs) (nth (content_of xs).records) (count_of xs) v
  unfolding parent_for content_of
  taker =
      subst (λ (n : ℕ). Taker (metric_of xs) x (root_of xs) (nth (content_of xs).records) n v) (content_count xs)
      (taker_is (metric_of xs) x (root_of xs) (nth (content_of xs).records) (length (content_of xs).records))

  pub parent_in_lem : parent_for (content_of xs) x < count_of xs
  parent_in_lem = ⊎_elim (λ (e : v ≡ root_of xs). rw e l.layout.root) (λ h. h.0) taker.can

  -- the distance of x and a record, in the content and in the tree
  pub dist_is : (u : ℕ) → u < count_of xs → distance_to (metric_of xs) x (nth (content_of xs).records u) ≡ distance (metric_of xs) (profile_at xs u) x
  unfolding distance_to
  dist_is u h = ap (λ (r : Kept). distance (metric_of xs) r.strain.profile x) (content_nth xs u h)

  -- a record is near enough where the tree says so
  near_is : (u : ℕ) → u < count_of xs → near_enough (metric_of xs) x (nth (content_of xs).records u) ≡ leb (2 * distance (metric_of xs) (profile_at xs u) x) (cover_limit (level_at xs u))
  unfolding near_enough distance_to
  near_is u h = rw (content_nth xs u h) refl

  -- what the tree says can take x, the content says too
  can_of : (u : ℕ) → CanTake (distance (metric_of xs)) (tree_of xs) x u
      → (u ≡ root_of xs) ⊎ ((u < count_of xs) × (near_enough (metric_of xs) x (nth (content_of xs).records u) ≡ true))
  can_of u h = ⊎_elim inl (λ k. inr (h.node, near_is u h.node ∙ told_true (tells_le _ _) ((at_most_level _ _).0 k))) h.near

  -- it is a nearest of those that can take x
  pub chosen : NearestTaker (distance (metric_of xs)) (tree_of xs) x (parent_for (content_of xs) x)
  chosen = record {
    taker = record {
      node = parent_in_lem;
      near = ⊎_elim inl (λ h. inr ((at_most_level _ _).1 (leb-true _ _ (sym (near_is v h.0) ∙ h.1)))) taker.can;
    };
    nearest = λ u h. rw (← dist_is v parent_in_lem, ← dist_is u h.node) (as_far (metric_of xs) x _ _ (taker.first u (can_of u h)));
  }

  -- and of those the one with the lowest code
  pub chosen_code : (u : ℕ) → CanTake (distance (metric_of xs)) (tree_of xs) x u
      → distance (metric_of xs) (profile_at xs u) x ≡ distance (metric_of xs) (profile_at xs (parent_for (content_of xs) x)) x
      → code_at xs (parent_for (content_of xs) x) ≤ code_at xs u
  chosen_code u h e = go (dec_le (code_at xs v) (code_at xs u))
    where
      code_is : (i : ℕ) → i < count_of xs → (nth (content_of xs).records i).strain.code ≡ code_at xs i
      code_is i k = ap (λ (r : Kept). r.strain.code) (content_nth xs i k)

      as_near : distance_to (metric_of xs) x (nth (content_of xs).records u) ≡ distance_to (metric_of xs) x (nth (content_of xs).records v)
      as_near = dist_is u h.node ∙ e ∙ sym (dist_is v parent_in_lem)

      go : Dec (code_at xs v ≤ code_at xs u) → code_at xs v ≤ code_at xs u
      go (yes k) = k
      go (no f) =
          absurd ((tells_nearer (metric_of xs) x _ _).no (taker.first u (can_of u h))
          (inr (as_near, omega (arith, lt_of_not-le f, code_is u h.node, code_is v parent_in_lem))))

  -- document 01's sentence names that record, and no other
  pub one_taker : (u : ℕ) → NearestTaker (distance (metric_of xs)) (tree_of xs) x u
      → ((w : ℕ) → NearestTaker (distance (metric_of xs)) (tree_of xs) x w → code_at xs u ≤ code_at xs w)
      → u ≡ parent_for (content_of xs) x
  one_taker u t lowest =
      let as_near : distance (metric_of xs) (profile_at xs u) x ≡ distance (metric_of xs) (profile_at xs v) x = omega (arith, t.nearest v chosen.taker, chosen.nearest u t.taker) in
      l.layout.codes u v t.taker.node parent_in_lem (omega (arith, lowest v chosen, chosen_code u t.taker as_near))

-- ---- the new library

module _ (xs : List ℕ) (b : Bytes xs) (l : Library xs) (s : Strain) (f : Fresh xs s) where
  abbrev c : Content
  c = content_of xs

  abbrev c' : Content
  c' = added c s

  abbrev p : ℕ
  p = parent_for c s.profile

  abbrev d : ℕ
  d = distance (metric_of xs) (profile_at xs p) s.profile

  abbrev n : ℕ
  n = count_of xs

  p_in : p < n
  p_in = parent_in_lem xs l s.profile

  profile_in : (i : ℕ) → i < n → Profile (wells_of xs) (profile_at xs i)
  unfolding content_of
  profile_in i h = rw (← ap (λ (r : Kept). r.strain.profile) (content_nth xs i h)) ((content_writable xs b).each i (rw (content_count xs) h)).profile

  -- the new strain lies away from its parent
  pub away : 0 < distance (metric_of xs) (profile_at xs (parent_for (content_of xs) s.profile)) s.profile
  away = go (ℕ_discrete d 0)
    where
      go : Dec (d ≡ 0) → 0 < d
      go (yes e) = absurd (f.new_profile p p_in ((library_metric l).apart _ _ (profile_length xs p) f.profile.count e))
      go (no ne) = omega (arith, ne)

  near : d ≤ 1048560
  near = distance_most (metric_of xs) (wells_of xs) l.layout.wells.1 (profile_in p p_in) f.profile

  level_is : level_for c s.profile ≡ fitting_level d
  unfolding level_for content_of
  level_is = ap fitting_level (dist_is xs l s.profile p p_in)

  old_storable : (i : ℕ) → i < n → Storable (level_at xs i)
  old_storable i h = record { least = (level_span (l.layout.level_byte i h)).0; most = (level_span (l.layout.level_byte i h)).1 }

  new_is : nth c'.records n ≡ record { strain = s; parent = p; level = fitting_level d }
  new_is =
      subst (λ (k : ℕ). nth c'.records k ≡ record { strain = s; parent = p; level = level_for c s.profile }) (content_count xs) (added_new c s)
      ∙ ap (λ (e : ℤ). record { strain = s; parent = p; level = e }) level_is

  top_is : nth c'.records (root_of xs) ≡ raised (fitting_level d) (record_at xs (root_of xs))
  unfolding content_of
  top_is =
      added_root c s (rw (content_count xs) l.layout.root)
      ∙ ap (λ (e : ℤ). raised e (nth c.records (root_of xs))) level_is
      ∙ ap (raised (fitting_level d)) (content_nth xs (root_of xs) l.layout.root)

  old_is : (i : ℕ) → i < n → i ≢ root_of xs → nth c'.records i ≡ record_at xs i
  unfolding content_of
  old_is i h ne = added_old c s i (rw (content_count xs) h) ne ∙ content_nth xs i h

  -- each record of the new content: an old one, the root, or the new one
  by_record : (P : ℕ → Kept → Type 0) → ((i : ℕ) → i < n → i ≢ root_of xs → P i (record_at xs i)) → P (root_of xs) (raised (fitting_level d) (record_at xs (root_of xs)))
      → P n (record { strain = s; parent = p; level = fitting_level d }) → (i : ℕ) → i < suc n → P i (nth c'.records i)
  by_record P old top new i h = go (ℕ_discrete i n) (ℕ_discrete i (root_of xs))
    where
      go : Dec (i ≡ n) → Dec (i ≡ root_of xs) → P i (nth c'.records i)
      go (yes e) _ = rw (e, new_is) new
      go (no ne) (yes e) = rw (e, top_is) top
      go (no ne) (no nr) = rw (old_is i (omega (arith, ne)) nr) (old i (omega (arith, ne)) nr)

  count_is : length c'.records ≡ suc n
  count_is = added_length c s ∙ ap suc (content_count xs)

  old_roomy : (i : ℕ) → i < n → Roomy (wells_of xs) (record_at xs i)
  unfolding content_of
  old_roomy i h = rw (← content_nth xs i h) ((content_writable xs b).each i (rw (content_count xs) h))

  top_storable : Storable (higher (level_at xs (root_of xs)) (suc_ℤ (fitting_level d)))
  top_storable = raised_storable (level_at xs (root_of xs)) d (old_storable (root_of xs) l.layout.root) away near

  below_254 : (e : ℤ) → Storable e → e ≤ℤ pos 254
  below_254 e st = parts_le e (pos 254) (omega (arith, le_parts st.most))

  top_roomy : Roomy (wells_of xs) (raised (fitting_level d) (record_at xs (root_of xs)))
  unfolding raised
  top_roomy =
      let r = old_roomy (root_of xs) l.layout.root in
      record { code = r.code; profile = r.profile; parent = r.parent; least = top_storable.least; most = below_254 _ top_storable }

  new_roomy : Roomy (wells_of xs) (record { strain = s; parent = p; level = fitting_level d })
  new_roomy =
      let st = fitting_storable d away near in
      record { code = f.code_fits; profile = f.profile; parent = omega (arith, p_in, f.room); least = st.least; most = below_254 _ st }

  pub added_writable : Writable (added (content_of xs) s)
  unfolding added content_of
  added_writable = record {
    wells = (content_writable xs b).wells;
    metric = (content_writable xs b).metric;
    count = rw count_is (omega (arith, f.room));
    root = (content_writable xs b).root;
    each = λ i h. by_record (λ j r. Roomy (wells_of xs) r) (λ j k ne. old_roomy j k) top_roomy new_roomy i (rw count_is at h);
  }

  abbrev ys : List ℕ
  ys = bytes_of c'

  count_new : count_of ys ≡ suc n
  count_new = (header_is c' added_writable).count ∙ count_is

  pub added_wells : wells_of (bytes_of (added (content_of xs) s)) ≡ wells_of xs
  unfolding added content_of
  added_wells = (header_is c' added_writable).wells

  pub added_metric : metric_of (bytes_of (added (content_of xs) s)) ≡ metric_of xs
  unfolding added content_of
  added_metric = (header_is c' added_writable).metric

  root_new : root_of ys ≡ root_of xs
  unfolding added content_of
  root_new = (header_is c' added_writable).root

  record_new : (i : ℕ) → i < suc n → record_at ys i ≡ nth c'.records i
  record_new i h = record_written c' added_writable i (rw count_is h)

  -- the same of what is read of the new bytes
  by_field : (P : ℕ → Kept → Type 0) → ((i : ℕ) → i < n → i ≢ root_of xs → P i (record_at xs i)) → P (root_of xs) (raised (fitting_level d) (record_at xs (root_of xs)))
      → P n (record { strain = s; parent = p; level = fitting_level d }) → (i : ℕ) → i < count_of ys → P i (record_at ys i)
  by_field P old top new i h = rw (record_new i (rw count_new at h)) (by_record P old top new i (rw count_new at h))

  new_fields : record_at ys n ≡ record { strain = s; parent = p; level = fitting_level d }
  new_fields = record_new n (omega arith) ∙ new_is

  same_level : (i : ℕ) → i < n → i ≢ root_of xs → level_at ys i ≡ level_at xs i
  same_level i h ne = ap (λ (r : Kept). r.level) (record_new i (omega arith) ∙ old_is i h ne)

  root_level_lem : level_at ys (root_of xs) ≡ higher (level_at xs (root_of xs)) (suc_ℤ (fitting_level d))
  unfolding raised
  root_level_lem = ap (λ (r : Kept). r.level) (record_new (root_of xs) (omega (arith, l.layout.root)) ∙ top_is)

  -- the old records keep their strain and their parent, the root too
  same_fields : (i : ℕ) → i < n → (strain_at ys i ≡ strain_at xs i) × (parent_at ys i ≡ parent_at xs i)
  unfolding raised
  same_fields i h = go (ℕ_discrete i (root_of xs))
    where
      go : Dec (i ≡ root_of xs) → (strain_at ys i ≡ strain_at xs i) × (parent_at ys i ≡ parent_at xs i)
      go (yes e) = rw e (ap (λ (r : Kept). r.strain) is_top, ap (λ (r : Kept). r.parent) is_top)
        where
          is_top : record_at ys (root_of xs) ≡ raised (fitting_level d) (record_at xs (root_of xs))
          is_top = record_new (root_of xs) (omega (arith, l.layout.root)) ∙ top_is
      go (no ne) = (ap (λ (r : Kept). r.strain) is_old, ap (λ (r : Kept). r.parent) is_old)
        where
          is_old : record_at ys i ≡ record_at xs i
          is_old = record_new i (omega arith) ∙ old_is i h ne

  code_of_lem : (i : ℕ) → i < n → code_at ys i ≡ code_at xs i
  code_of_lem i h = ap (λ (z : Strain). z.code) (same_fields i h).0

  new_code_lem : code_at ys n ≡ s.code
  new_code_lem = ap (λ (r : Kept). r.strain.code) new_fields

  one_code : (i j : ℕ) → i < suc n → j < suc n → code_at ys i ≡ code_at ys j → i ≡ j
  one_code i j hi hj e = go (ℕ_discrete i n) (ℕ_discrete j n)
    where
      clash : (k : ℕ) → k < n → code_at ys k ≡ code_at ys n → ⊥
      clash k h q = f.new_code k h (sym (code_of_lem k h) ∙ q ∙ new_code_lem)

      go : Dec (i ≡ n) → Dec (j ≡ n) → i ≡ j
      go (yes a) (yes z) = a ∙ sym z
      go (yes a) (no nz) = absurd (clash j (omega (arith, nz)) (sym e ∙ ap (code_at ys) a))
      go (no na) (yes z) = absurd (clash i (omega (arith, na)) (e ∙ ap (code_at ys) z))
      go (no na) (no nz) =
          l.layout.codes i j (omega (arith, na)) (omega (arith, nz)) (sym (code_of_lem i (omega (arith, na))) ∙ e ∙ code_of_lem j (omega (arith, nz)))

  new_layout : Layout ys
  unfolding raised
  new_layout =
      let frame = bytes_framed c' added_writable in
      record {
        edition = frame.edition;
        wells = rw added_wells l.layout.wells;
        metric = rw added_metric l.layout.metric;
        count = rw count_new (omega arith, omega (arith, f.room));
        profiles_offset = frame.profiles_offset;
        nodes_offset = frame.nodes_offset;
        size = frame.size;
        root = omega (arith, root_new, count_new, l.layout.root);
        root_parent = rw root_new ((same_fields (root_of xs) l.layout.root).1 ∙ l.layout.root_parent);
        code = by_field (λ i r. r.strain.code ≢ 0) (λ i h ne. l.layout.code i h) (l.layout.code (root_of xs) l.layout.root) f.code;
        codes = λ i j hi hj. one_code i j (rw count_new at hi) (rw count_new at hj);
        parent =
            by_field (λ i r. r.parent < count_of ys) (λ i h ne. omega (arith, count_new, l.layout.parent i h))
            (omega (arith, count_new, l.layout.parent (root_of xs) l.layout.root)) (omega (arith, count_new, p_in));
        level_byte = λ i h.
            storable_byte (level_byte_at ys i)
            (by_field (λ j r. Storable r.level) (λ j k ne. old_storable j k) top_storable (fitting_storable d away near) i h);
        spare = frame.spare;
      }

  -- its tree is the old one with the strain hung in as document 01 says
  pub added_grown : Grown (distance (metric_of xs)) (tree_of xs) (tree_of (bytes_of (added (content_of xs) s))) s.profile (parent_for (content_of xs) s.profile) (count_of xs)
  added_grown = record {
    nodes = λ q h. either q (ℕ_discrete q n) (rw count_new at h);
    olds = λ q h. rw count_new (omega arith);
    root = root_new;
    profile = λ q h. ap (λ (z : Strain). z.profile) (same_fields q h).0;
    new_profile = ap (λ (r : Kept). r.strain.profile) new_fields;
    parent = λ q h. (same_fields q h).1;
    new_parent = ap (λ (r : Kept). r.parent) new_fields;
    level = same_level;
    new_level = ap (λ (r : Kept). r.level) new_fields;
    root_level = rw (ap (λ (r : Kept). r.level) new_fields) root_level_lem;
  }
    where
      either : (q : ℕ) → Dec (q ≡ n) → q < suc n → (q < n) ⊎ (q ≡ n)
      either q (yes e) h = inr e
      either q (no ne) h = inl (omega (arith, ne))

  -- the new library is accepted
  pub added_accepted : Library (bytes_of (added (content_of xs) s))
  added_accepted = record {
    layout = new_layout;
    tree = rw added_metric (grown_tree (library_metric l).symmetric l.tree added_grown (chosen xs l s.profile) away (count_of ys) (λ q h. h));
  }
