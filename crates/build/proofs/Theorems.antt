-- What start, add and filing do for those who use them: demand 2's last sentence and demand 3. Assumes nothing.
use mathlib.Core.Path.{◌≡◌, refl, sym, ◌∙◌, ap, subst}
use mathlib.Core.Logic.{◌≢◌, ◌↔◌}
use mathlib.Core.List.{List, [], ◌∷◌, ◌++◌, Memᴰ}
use Prim.Native.Nat.{ℕ, ◌≤◌, ◌<◌}
use native.Mathlib.Omega.{arith}
use lib.IntN.{ℤ}
use lib.ListN.{length, take, drop, length-append}
use Rattle.profile.specs.Distance.{Wells, distance}
use Rattle.tree.specs.Grow.{CanTake, NearestTaker, Grown}
use Rattle.image.specs.Fields.{wells_of, metric_of, count_of, code_at, profile_at}
use Rattle.image.specs.Strains.{Strain, strains_of, strain_of}
use Rattle.image.specs.Library.{tree_of, Library}
use Rattle.image.specs.Verdict.{judge}
use Rattle.image.specs.Answer.{given, outcome}
use Rattle.image.proofs.Outcomes.{Gave, gave}
use Rattle.checker.proofs.Accepted.{metric_is, accepted_exactly}
use Rattle.content.specs.Content.{content_of}
use Rattle.content.specs.Bytes.{Bytes, bytes_of}
use Rattle.content.specs.Adding.{started, parent_for, added}
use Rattle.content.specs.Filing.{filing_form}
use Rattle.content.proofs.Blocks.{bytes_take}
use Rattle.content.proofs.Bytes.{content_of_bytes}
use Rattle.content.proofs.Added.{added_strains}
use Rattle.content.proofs.Accepted.{chosen, chosen_code, Fresh, added_writable, added_wells, added_metric, added_grown, added_accepted}
use Rattle.content.proofs.Started.{Startable, started_writable, started_accepted}
use Rattle.content.proofs.Filing.{strains_are, strains_written, file_accepted, file_length, file_same_strains}
use Rattle.build.specs.Rules.{start_rules, add_rules, file_rules}
use Rattle.build.specs.Calls.{start_of, add_of, file_of}
use Rattle.build.proofs.Calls.{file_passes}
use Rattle.build.proofs.Passed.{starts, add_passed, file_passed}

-- ---- start: the image it gives is accepted, and is document 01's

module _ (wells metric code : ℕ) (profile : List ℤ) (buffer : List ℕ) (code_fits : code < 4294967296) (values : Wells profile) (n : ℕ)
    (e : (start_of wells metric code profile buffer).answer ≡ given n) where
  begins : Gave (judge (start_rules wells metric code profile (length buffer))) (bytes_of (started wells metric (strain_of code profile))) buffer n
  unfolding start_of
  begins = gave _ _ _ n e

  startable : Startable wells metric (strain_of code profile)
  startable =
      let s = starts wells metric code profile (length buffer) begins.verdict in
      record { wells_in = s.wells_in; metric_in = metric_is metric s.metric_in; code = s.has_code; code_fits = code_fits; profile = record { count = s.long; values = values } }

  pub start_accepted : Library (take n (start_of wells metric code profile buffer).buffer)
  unfolding start_of
  start_accepted = rw begins.front (started_accepted wells metric (strain_of code profile) startable)

  -- it says what document 01 says of a start: the one strain, a lone root at level 0
  pub start_says : content_of (take n (start_of wells metric code profile buffer).buffer) ≡ started wells metric (strain_of code profile)
  unfolding start_of
  start_says = rw begins.front (content_of_bytes _ (started_writable wells metric (strain_of code profile) startable))

  -- bytes behind it are as they were
  pub start_keeps_rest : drop n (start_of wells metric code profile buffer).buffer ≡ drop n buffer
  unfolding start_of
  start_keeps_rest = begins.behind

-- ---- add: the image it gives is accepted, and holds the old strains and the new one, unaltered

module _ (buffer : List ℕ) (stated code : ℕ) (profile : List ℤ) (b : Bytes buffer) (code_fits : code < 4294967296) (values : Wells profile) (n : ℕ)
    (e : (add_of buffer stated code profile).answer ≡ given n) where
  abbrev old : List ℕ
  old = take stated buffer

  abbrev new : List ℕ
  new = take n (add_of buffer stated code profile).buffer

  gives : Gave (judge (add_rules buffer stated code profile)) (bytes_of (added (content_of old) (strain_of code profile))) buffer n
  unfolding add_of
  gives = gave _ _ _ n e

  new_is : new ≡ bytes_of (added (content_of old) (strain_of code profile))
  unfolding add_of
  new_is = gives.front

  pub add_was_accepted : Library (take stated buffer)
  add_was_accepted = (add_passed buffer stated code profile gives.verdict).1

  old_bytes : Bytes old
  old_bytes = bytes_take stated buffer b

  fresh : Fresh old (strain_of code profile)
  fresh =
      let a = (add_passed buffer stated code profile gives.verdict).2 in
      record {
        room = omega (arith, a.not_full, add_was_accepted.layout.count.1);
        code = a.has_code;
        code_fits = code_fits;
        profile = record { count = a.wells; values = values };
        new_code = a.new_code;
        new_profile = a.new_profile;
      }

  pub add_accepted : Library (take n (add_of buffer stated code profile).buffer)
  add_accepted = rw new_is (added_accepted old old_bytes add_was_accepted (strain_of code profile) fresh)

  -- the wells and the metric are the old ones
  pub add_keeps_wells : wells_of (take n (add_of buffer stated code profile).buffer) ≡ wells_of (take stated buffer)
  add_keeps_wells = ap wells_of new_is ∙ added_wells old old_bytes add_was_accepted (strain_of code profile) fresh

  pub add_keeps_metric : metric_of (take n (add_of buffer stated code profile).buffer) ≡ metric_of (take stated buffer)
  add_keeps_metric = ap metric_of new_is ∙ added_metric old old_bytes add_was_accepted (strain_of code profile) fresh

  -- the old list, followed by the new strain
  pub add_keeps_strains : strains_of (take n (add_of buffer stated code profile).buffer) ≡ strains_of (take stated buffer) ++ (strain_of code profile ∷ [])
  add_keeps_strains =
      ap strains_of new_is
      ∙ strains_written _ (added_writable old old_bytes add_was_accepted (strain_of code profile) fresh)
      ∙ added_strains (content_of old) (strain_of code profile)
      ∙ ap (λ (ss : List Strain). ss ++ (strain_of code profile ∷ [])) (strains_are old)

  -- bytes behind the new image are as they were
  pub add_keeps_rest : drop n (add_of buffer stated code profile).buffer ≡ drop n buffer
  unfolding add_of
  add_keeps_rest = gives.behind

  -- the parent is a nearest node that can take the strain, and of those the one with the lowest code
  pub add_nearest : NearestTaker (distance (metric_of old)) (tree_of old) profile (parent_for (content_of old) profile)
  add_nearest = chosen old add_was_accepted profile

  pub add_lowest_code : (u : ℕ) → CanTake (distance (metric_of old)) (tree_of old) profile u
      → distance (metric_of old) (profile_at old u) profile ≡ distance (metric_of old) (profile_at old (parent_for (content_of old) profile)) profile
      → code_at old (parent_for (content_of old) profile) ≤ code_at old u
  add_lowest_code = chosen_code old add_was_accepted profile

  -- under it the strain is hung in, at the fitting level of its distance, and all else stays but the root's level
  pub add_grown : Grown (distance (metric_of old)) (tree_of old) (tree_of new) profile (parent_for (content_of old) profile) (count_of old)
  add_grown =
      subst (λ (z : List ℕ). Grown (distance (metric_of old)) (tree_of old) (tree_of z) profile (parent_for (content_of old) profile) (count_of old)) (sym new_is)
      (added_grown old old_bytes add_was_accepted (strain_of code profile) fresh)

  -- so it never leaves the image as it was
  pub add_changes : take n (add_of buffer stated code profile).buffer ≢ take stated buffer
  add_changes q =
      absurd (omega (
        arith,
        ap (λ (z : List ℕ). length (strains_of z)) q,
        ap length add_keeps_strains,
        length-append (strains_of old) (strain_of code profile ∷ []),
      ))

-- ---- filing

module _ (image buffer : List ℕ) (b : Bytes image) where
  -- an accepted library is never refused where there is room, and its filing form is as long
  pub file_is : Library image → length image ≤ length buffer
      → file_of image buffer ≡ record { answer = given (length image); buffer = filing_form image ++ drop (length image) buffer }
  unfolding file_of outcome
  file_is l h = rw (file_passes image (length buffer) (sym ((accepted_exactly image).1 l)) h, file_length image b l) refl

  module _ (n : ℕ) (e : (file_of image buffer).answer ≡ given n) where
    files : Gave (judge (file_rules image (length buffer))) (filing_form image) buffer n
    unfolding file_of
    files = gave _ _ _ n e

    -- what stands in front of the buffer is the filing form
    pub file_gives : (take n (file_of image buffer).buffer ≡ filing_form image) × Library image
    unfolding file_of
    file_gives = (files.front, (file_passed image (length buffer) files.verdict).0)

    pub file_was_as_long : n ≡ length image
    file_was_as_long = files.long ∙ file_length image b file_gives.1

    pub filed_accepted : Library (take n (file_of image buffer).buffer)
    filed_accepted = rw file_gives.0 (file_accepted image b file_gives.1)

    pub filed_same_strains : (s : Strain) → Memᴰ s (strains_of (take n (file_of image buffer).buffer)) ↔ Memᴰ s (strains_of image)
    filed_same_strains s = rw file_gives.0 (file_same_strains image b file_gives.1 s)
