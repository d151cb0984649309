-- A library grown from strains that it can hold is accepted, and holds them. Assumes nothing.
use mathlib.Core.Path.{◌≡◌, refl, sym, ◌∙◌, ap, subst}
use mathlib.Core.Logic.{◌≢◌, ◌⊎◌}
use mathlib.Core.List.Memᴰ
use mathlib.Core.List.{List, [], ◌∷◌, ◌++◌, foldl, foldl-append, append_assoc, append-nil, Memᴰ}
use Prim.Native.Nat.{ℕ, suc, ◌≤◌, ◌<◌}
use native.Mathlib.Omega.{arith}
use lib.ListN.{length, get_or, take, drop, length-append, take-append-drop, length-map, get_or-map}
use lib.Seq.{length-take-le, take-suc, split_at}
use Rattle.profile.specs.Distance.{Profile}
use Rattle.profile.proofs.Levels.{level_span}
use Rattle.ranking.specs.Order.{Distinct}
use Rattle.ranking.proofs.Places.{mem_get_or}
use Rattle.ranking.proofs.Order.{distinct_front, distinct_apart}
use Rattle.image.specs.Fields.{count_of}
use Rattle.image.specs.Strains.{Strain, strain_at}
use Rattle.image.specs.Library.{Library}
use Rattle.content.specs.Content.{Kept, Content, nth, no_record, strains, content_of}
use Rattle.content.specs.Bytes.{bytes_of, Writable}
use Rattle.content.specs.Adding.{distance_to, parent_for, started, added}
use Rattle.content.specs.Filing.{grown_of}
use Rattle.content.proofs.Bytes.{bytes_are, header_is, record_written, content_of_bytes}
use Rattle.content.proofs.Levels.{Storable}
use Rattle.content.proofs.Added.{added_strains}
use Rattle.content.proofs.Accepted.{Fresh, parent_in_lem, dist_is, away, added_writable, added_accepted}
use Rattle.content.proofs.Started.{Startable, started_writable, started_accepted}

-- strains that one library can hold
pub record Holdable (wells : ℕ) (ss : List Strain) : Type 0 where
  pub count : length ss ≤ 1024
  pub code : {s : Strain} → Memᴰ s ss → s.code ≢ 0
  pub code_fits : {s : Strain} → Memᴰ s ss → s.code < 4294967296
  pub profile : {s : Strain} → Memᴰ s ss → Profile wells s.profile
  pub codes : Distinct (λ (s : Strain). s.code) ss
  pub profiles : {s t : Strain} → Memᴰ s ss → Memᴰ t ss → s.profile ≡ t.profile → s.code ≡ t.code

-- a content that can be written, and whose bytes are accepted
pub record Sound (c : Content) : Type 0 where
  pub written : Writable c
  pub accepted : Library (bytes_of c)

module _ (c : Content) (s : Strain) (rest : List Strain) (sound : Sound c) (hold : Holdable c.wells (strains c ++ (s ∷ rest))) where
  abbrev xs : List ℕ
  xs = bytes_of c

  said : content_of xs ≡ c
  said = content_of_bytes c sound.written

  count_is : count_of xs ≡ length (strains c)
  count_is = (header_is c sound.written).count ∙ sym (length-map c.records (λ (r : Kept). r.strain))

  -- a held strain is one of those, and so is the new one
  held : (i : ℕ) → i < count_of xs → Memᴰ (strain_at xs i) (strains c)
  held i h =
      rw (ap (λ (r : Kept). r.strain) (record_written c sound.written i (rw (header_is c sound.written).count at h)), ← get_or-map (λ (r : Kept). r.strain) c.records i no_record)
      (mem_get_or (strains c) i no_record.strain (omega (arith, count_is)))

  new_in : Memᴰ s (s ∷ rest)
  new_in = Memᴰ.head refl

  fresh : Fresh xs s
  fresh = record {
    room = omega (arith, count_is, hold.count, length-append (strains c) (s ∷ rest));
    code = hold.code (Memᴰ.append_right (strains c) new_in);
    code_fits = hold.code_fits (Memᴰ.append_right (strains c) new_in);
    profile = rw (header_is c sound.written).wells (hold.profile (Memᴰ.append_right (strains c) new_in));
    new_code = λ i h. distinct_apart (strains c) (s ∷ rest) hold.codes (held i h) new_in;
    new_profile = λ i h e.
        distinct_apart (strains c) (s ∷ rest) hold.codes (held i h) new_in
        (hold.profiles (Memᴰ.append_left (s ∷ rest) (held i h)) (Memᴰ.append_right (strains c) new_in) e);
  }

  -- its distance to its parent is not 0
  pub added_away : 0 < distance_to c.metric s.profile (nth c.records (parent_for c s.profile))
  unfolding content_of
  added_away =
      subst (λ (z : Content). 0 < distance_to z.metric s.profile (nth z.records (parent_for z s.profile))) said
      (rw (dist_is xs sound.accepted s.profile (parent_for (content_of xs) s.profile) (parent_in_lem xs sound.accepted s.profile))
      (away xs (bytes_are c sound.written) sound.accepted s fresh))

  added_sound : Sound (added c s)
  added_sound = rw (← said) (record {
    written = added_writable xs (bytes_are c sound.written) sound.accepted s fresh;
    accepted = added_accepted xs (bytes_are c sound.written) sound.accepted s fresh;
  })

added_wells : (c : Content) (s : Strain) → (added c s).wells ≡ c.wells
unfolding added
added_wells c s = refl

-- the strains are the old ones, and the new ones behind them, in their order
more_strains : (ss : List Strain) (c : Content) → strains (foldl added c ss) ≡ strains c ++ ss
more_strains [] c = sym (append-nil (strains c))
more_strains (s ∷ ss) c = more_strains ss (added c s) ∙ ap (λ (r : List Strain). r ++ ss) (added_strains c s) ∙ append_assoc (strains c) (s ∷ []) ss

more_sound : (ss : List Strain) (c : Content) → Sound c → Holdable c.wells (strains c ++ ss) → Sound (foldl added c ss)
more_sound [] c sound hold = sound
more_sound (s ∷ ss) c sound hold =
    more_sound ss (added c s) (added_sound c s ss sound hold)
    (rw (added_wells c s, added_strains c s, append_assoc (strains c) (s ∷ []) ss) hold)

-- wells, metric and root stay
pub record Keeps (c c' : Content) : Type 0 where
  pub wells : c'.wells ≡ c.wells
  pub metric : c'.metric ≡ c.metric
  pub root : c'.root ≡ c.root

more_keeps : (ss : List Strain) (c : Content) → Keeps c (foldl added c ss)
unfolding added
more_keeps [] c = record { wells = refl; metric = refl; root = refl }
more_keeps (s ∷ ss) c = let k = more_keeps ss (added c s) in record { wells = k.wells; metric = k.metric; root = k.root }

module _ (wells metric : ℕ) where
  pub grown_strains : (ss : List Strain) → strains (grown_of wells metric ss) ≡ ss
  unfolding grown_of started
  grown_strains [] = refl
  grown_strains (s ∷ ss) = more_strains ss (started wells metric s)

  pub grown_keeps : (ss : List Strain) → Keeps (record { wells = wells; metric = metric; root = 0; records = [] }) (grown_of wells metric ss)
  unfolding grown_of started
  grown_keeps [] = record { wells = refl; metric = refl; root = refl }
  grown_keeps (s ∷ ss) = let k = more_keeps ss (started wells metric s) in record { wells = k.wells; metric = k.metric; root = k.root }

  pub grown_sound : (ss : List Strain) → (1 ≤ wells) × (wells ≤ 16) → (metric ≡ 1) ⊎ (metric ≡ 2) → Holdable wells ss → 0 < length ss → Sound (grown_of wells metric ss)
  unfolding grown_of started
  grown_sound [] w m h l = absurd (omega arith)
  grown_sound (s ∷ ss) w m h l =
      more_sound ss (started wells metric s)
      (record { written = started_writable wells metric s first; accepted = started_accepted wells metric s first }) h
    where
      in_front : Memᴰ s (s ∷ ss)
      in_front = Memᴰ.head refl

      first : Startable wells metric s
      first = record { wells_in = w; metric_in = m; code = h.code in_front; code_fits = h.code_fits in_front; profile = h.profile in_front }

-- ---- one strain after the other, from a list

-- its first strains can be held too
pub front_holdable : {wells : ℕ} (k : ℕ) (ss : List Strain) → Holdable wells ss → Holdable wells (take k ss)
front_holdable {wells} k ss h = parts (subst (Holdable wells) (sym (take-append-drop k ss)) h)
  where
    parts : Holdable wells (take k ss ++ drop k ss) → Holdable wells (take k ss)
    parts p = record {
      count = omega (arith, p.count, length-append (take k ss) (drop k ss));
      code = λ m. p.code (Memᴰ.append_left (drop k ss) m);
      code_fits = λ m. p.code_fits (Memᴰ.append_left (drop k ss) m);
      profile = λ m. p.profile (Memᴰ.append_left (drop k ss) m);
      codes = distinct_front (take k ss) (drop k ss) p.codes;
      profiles = λ m n. p.profiles (Memᴰ.append_left (drop k ss) m) (Memᴰ.append_left (drop k ss) n);
    }

grown_last : (wells metric : ℕ) (ss : List Strain) (s : Strain) → 0 < length ss → grown_of wells metric (ss ++ (s ∷ [])) ≡ added (grown_of wells metric ss) s
unfolding grown_of
grown_last wells metric [] s h = absurd (omega arith)
grown_last wells metric (t ∷ ss) s h = foldl-append added (started wells metric t) ss (s ∷ [])

module _ (wells metric : ℕ) (ss : List Strain) (d : Strain) where
  -- the list, cut at one of its strains
  cut : (k : ℕ) → k < length ss → strains (grown_of wells metric (take k ss)) ++ (get_or ss k d ∷ drop (suc k) ss) ≡ ss
  cut k h = rw (grown_strains wells metric (take k ss)) (sym (split_at ss k d h))

  -- the next strain is added
  pub grown_more : (k : ℕ) → 0 < k → k < length ss → grown_of wells metric (take (suc k) ss) ≡ added (grown_of wells metric (take k ss)) (get_or ss k d)
  grown_more k p h = rw (take-suc ss k d h) (grown_last wells metric (take k ss) (get_or ss k d) (rw (length-take-le k ss (omega arith)) p))

  module _ (w : (1 ≤ wells) × (wells ≤ 16)) (m : (metric ≡ 1) ⊎ (metric ≡ 2)) (hold : Holdable wells ss) (k : ℕ) (some : 0 < k) (h : k < length ss) where
    abbrev c : Content
    c = grown_of wells metric (take k ss)

    pub front_sound : Sound (grown_of wells metric (take k ss))
    front_sound = grown_sound wells metric (take k ss) w m (front_holdable k ss hold) (rw (length-take-le k ss (omega arith)) some)

    pub front_away : 0 < distance_to metric (get_or ss k d).profile (nth (grown_of wells metric (take k ss)).records (parent_for (grown_of wells metric (take k ss)) (get_or ss k d).profile))
    front_away =
        subst (λ (z : ℕ). 0 < distance_to z (get_or ss k d).profile (nth c.records (parent_for c (get_or ss k d).profile))) (grown_keeps wells metric (take k ss)).metric
        (added_away c (get_or ss k d) (drop (suc k) ss) front_sound (rw ((grown_keeps wells metric (take k ss)).wells, cut k h) hold))

-- the levels of a sound content can be stored
pub sound_level : (c : Content) → Sound c → (i : ℕ) → i < length c.records → Storable (nth c.records i).level
sound_level c s i h =
    let b = level_span (s.accepted.layout.level_byte i (omega (arith, (header_is c s.written).count))) in
    subst (λ (r : Kept). Storable r.level) (record_written c s.written i h) (record { least = b.0; most = b.1 })
