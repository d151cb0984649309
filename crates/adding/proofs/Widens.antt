-- A library in front of a buffer, laid out anew for one record more: it says what it said. Assumes nothing.
use mathlib.Core.Path.{◌≡◌, sym, ◌∙◌}
use mathlib.Core.List.{List}
use Prim.Native.Nat.{ℕ, suc, ◌+◌, ◌*◌, ◌≤◌, ◌<◌}
use native.Mathlib.Nat.{mul-suc}
use native.Mathlib.Omega.{arith}
use lib.ListN.{length, get_or, take}
use lib.Seq.{length-take-le, get_or-take, ext_get_or, sets}
use Rattle.profile.specs.Level.{level_of}
use Rattle.image.specs.Fields.{wells_of, metric_of, count_of, root_of, spare_at, profile_start, profile_at, size_of}
use Rattle.image.specs.Library.{Library}
use Rattle.image.proofs.Sizes.{row_in}
use Rattle.content.specs.Content.{no_record, record_at, records_of, first_of, content_of}
use Rattle.content.specs.Bytes.{header_bytes}
use Rattle.content.proofs.Records.{records_length, record_is}
use Rattle.content.proofs.Same.{NodeSame, node_same, wells_same}
use Rattle.content.specs.Headed.{Headed}
use Rattle.writer.specs.Moved.{Moved}
use Rattle.writer.proofs.Heads.{head_long, past_head, headed}
use Rattle.adding.specs.Filled.{Filled}

module _ (buffer : List ℕ) (stated : ℕ) (l : Library (take stated buffer)) (within : stated ≤ length buffer) where
  abbrev image : List ℕ
  image = take stated buffer

  abbrev n : ℕ
  n = count_of image

  abbrev w : ℕ
  w = wells_of image

  pub stated_is : stated ≡ size_of (wells_of (take stated buffer)) (count_of (take stated buffer))
  stated_is = sym (length-take-le stated buffer within) ∙ l.layout.size

  at : (j : ℕ) → j < stated → get_or buffer j 0 ≡ get_or image j 0
  at j h = sym (get_or-take stated buffer j 0 h)

  module _ (moved ys : List ℕ) (m : Moved buffer moved (16 + 8 * n) stated)
      (e : ys ≡ sets moved 0 (header_bytes w (metric_of image) (suc n) (root_of image))) (room : size_of w (suc n) ≤ length buffer) where
    head_room : 16 ≤ length moved
    head_room = omega (arith, m.size, room)

    long : length ys ≡ length buffer
    long = head_long moved ys w (metric_of image) (suc n) (root_of image) e head_room ∙ m.size

    past_header : (j : ℕ) → 16 ≤ j → get_or ys j 0 ≡ get_or moved j 0
    past_header = past_head moved ys w (metric_of image) (suc n) (root_of image) e head_room

    pub widened_head : Headed ys (wells_of (take stated buffer)) (metric_of (take stated buffer)) (suc (count_of (take stated buffer))) (root_of (take stated buffer))
    widened_head = headed moved ys w (metric_of image) (suc n) (root_of image) e head_room

    -- the nodes stay, the profiles stand 8 bytes further
    node_at : (i : ℕ) → i < n → NodeSame image ys i
    node_at i h =
        node_same image ys i
        (λ j k. past_header (16 + 8 * i + j) (omega arith) ∙ m.before (16 + 8 * i + j) (omega arith) ∙ at (16 + 8 * i + j) (omega (arith, stated_is)))

    profile_at_lem : (i : ℕ) → i < n → profile_at ys i ≡ profile_at image i
    unfolding profile_at
    profile_at_lem i h = rw (widened_head.count, widened_head.wells)
        (wells_same image ys (profile_start n w i) (profile_start (suc n) w i) w
        (λ j k.
        let q : ℕ = profile_start n w i + j in
        let here : profile_start (suc n) w i + j ≡ q + 8 = omega arith in
        let inside : q < stated = omega (arith, stated_is, row_in w h) in
        rw here (past_header (q + 8) (omega arith) ∙ m.moved q (omega arith) inside ∙ at q inside)))

    record_at_lem : (i : ℕ) → i < n → record_at ys i ≡ record_at image i
    record_at_lem i h =
        let a = node_at i h in
        λ t. record { strain = record { code = a.code t; profile = profile_at_lem i h t }; parent = a.parent t; level = level_of (a.level_byte t) }

    -- it says what the image says
    pub widened_says : first_of ys (count_of (take stated buffer)) ≡ content_of (take stated buffer)
    unfolding content_of
    widened_says = λ t. record { wells = widened_head.wells t; metric = widened_head.metric t; root = widened_head.root t; records = records t }
      where
        records : records_of ys n ≡ records_of image n
        records =
            ext_get_or no_record _ _ (records_length ys n ∙ sym (records_length image n))
            (λ i h. let g : i < n = omega (arith, records_length ys n) in record_is ys n i g ∙ record_at_lem i g ∙ sym (record_is image n i g))

    pub widened_spare : (i : ℕ) → i < count_of (take stated buffer) → spare_at ys i ≡ 0
    widened_spare i h = (node_at i h).spare ∙ l.layout.spare i h

    pub widened_behind : (j : ℕ) → size_of (wells_of (take stated buffer)) (suc (count_of (take stated buffer))) ≤ j → get_or ys j 0 ≡ get_or buffer j 0
    widened_behind j h = past_header j (omega arith) ∙ m.behind j (omega (arith, stated_is, mul-suc w n))

    pub widened_long : length ys ≡ length buffer
    widened_long = long

    pub widened_filled : count_of (take stated buffer) < 1024
        → Filled ys (metric_of (take stated buffer)) (wells_of (take stated buffer)) (suc (count_of (take stated buffer))) (count_of (take stated buffer))
    widened_filled h = record {
      is_metric = sym widened_head.metric;
      is_wells = sym widened_head.wells;
      is_count = sym widened_head.count;
      wells_high = l.layout.wells.1;
      count_high = omega arith;
      root_in = rw widened_head.root l.layout.root;
      filled_in = omega arith;
      room = omega (arith, long, room);
      level_in = λ i g. rw (node_at i g).level_byte (l.layout.level_byte i g);
    }
