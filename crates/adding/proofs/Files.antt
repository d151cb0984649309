-- Strains filed one after the other into a buffer laid out for all of them. Assumes nothing.
use mathlib.Core.Path.{◌≡◌, sym, ◌∙◌, ap, subst, transport}
use mathlib.Core.List.{List, ◌++◌}
use Prim.Native.Nat.{ℕ, ◌+◌, ◌≤◌, ◌<◌}
use native.Mathlib.Numerals.{add-one}
use native.Mathlib.Omega.{arith}
use lib.ListN.{length, get_or, take, drop}
use lib.Seq.{take_all, take-suc}
use Rattle.ranking.proofs.Sorted.{sort_length}
use Rattle.profile.specs.Metric.{metric_number}
use Rattle.image.specs.Fields.{wells_of, metric_of, count_of, level_byte_at, size_of}
use Rattle.image.specs.Strains.{Strain, strain_at, strains_of}
use Rattle.image.specs.declared.accepted.Accepted.{Accepted}
use Rattle.image.specs.declared.shape.Shape.{Shape}
use Rattle.image.proofs.Strains.{strains_length}
use Rattle.content.specs.Content.{Kept, Content, nth, records_of, first_of}
use Rattle.content.specs.Bytes.{Bytes}
use Rattle.content.specs.Adding.{distance_to, parent_for, started, added}
use Rattle.content.specs.Filing.{by_code, grown_of, filed, filing_form}
use Rattle.content.proofs.Records.{records_length, record_is}
use Rattle.content.proofs.Levels.{Storable, storable_byte}
use Rattle.content.proofs.Filed.{Holdable, Sound, front_sound, front_away, sound_level, grown_more}
use Rattle.content.proofs.Filing.{library_strains, sorted_holdable}
use Rattle.content.proofs.Front.{buffer_is}
use Rattle.order.specs.Key.{order_of}
use Rattle.writer.proofs.Heads.{headed_still}
use Rattle.adding.specs.Filled.{Filled}
use Rattle.adding.specs.Steps.{Seated, Hung, Begun, Filing}
use Rattle.adding.specs.declared.seat.Seat.{Seat}
use Rattle.adding.proofs.Grows.{laid_of, spares_to}
use Rattle.adding.proofs.ByCode.{nobody, ordered_strain}

-- an accepted library
module _ (a : Accepted) where
  abbrev image : List ℕ
  image = a.records.image.now

  abbrev shape : Shape
  shape = a.records.shape

  abbrev n : ℕ
  n = count_of image

  abbrev w : ℕ
  w = wells_of image

  abbrev m : ℕ
  m = metric_of image

  -- the strains in order
  abbrev ss : List Strain
  ss = by_code (strains_of image)

  ss_long : length ss ≡ n
  ss_long = sort_length (λ (s : Strain). s.code) (strains_of image) ∙ strains_length image

  ss_hold : Holdable w ss
  ss_hold = sorted_holdable (library_strains image (record { low = a.records.bytes }) a.library)

  image_long : length image ≡ size_of w n
  image_long = a.library.layout.size

  pub filing_size : length a.records.image.now ≡ size_of a.records.shape.wells a.records.shape.count
  filing_size = rw (a.is_wells, a.is_count) image_long

  pub filing_some : 0 < a.records.shape.count
  filing_some = omega (arith, a.is_count, a.library.layout.count.0)

  -- the first of them is begun with
  pub filing_first : {buffer ys : List ℕ} {s : Strain} {from : ℕ} → length a.records.image.now ≤ length buffer → s ≡ strain_at a.records.image.now from
      → from ≡ get_or (order_of a.records.image.now) 0 0 → Begun buffer ys a.records.shape.wells (metric_number a.records.shape.metric) a.records.shape.count s → Filing a.records.image.now buffer ys 1
  unfolding grown_of
  filing_first {buffer} {ys} {s} room e o begun =
      let h = transport (λ i. Begun buffer ys (a.is_wells i) (a.is_metric i) (a.is_count i) s) begun in
      record {
        headed = h.headed;
        says =
            h.says ∙ ap (started w m) (e ∙ ordered_strain a 0 filing_some o)
            ∙ sym (ap (grown_of w m) (take-suc ss 0 nobody (omega (arith, ss_long, a.library.layout.count.0))));
        long = h.long;
        room = room;
        behind = λ j g. h.behind j (omega (arith, image_long));
        spare = h.spare;
      }

  module _ {buffer ys : List ℕ} {k : ℕ} (f : Filing a.records.image.now buffer ys k) where
    filing_records : records_of ys k ≡ (grown_of w m (take k ss)).records
    filing_records = ap (λ (c : Content). c.records) f.says

    -- what is there of it can be searched
    filled_so_far : 0 < k → k < n → Filled ys m w n k
    filled_so_far some h = record {
      is_metric = sym f.headed.metric;
      is_wells = sym f.headed.wells;
      is_count = sym f.headed.count;
      wells_high = a.library.layout.wells.1;
      count_high = a.library.layout.count.1;
      root_in = rw f.headed.root some;
      filled_in = omega arith;
      room = omega (arith, f.long, f.room, image_long);
      level_in = levels;
    }
      where
        sound : Sound (grown_of w m (take k ss))
        sound = front_sound w m ss nobody a.library.layout.wells a.library.layout.metric ss_hold k some (omega (arith, ss_long))

        levels : (i : ℕ) → i < k → level_byte_at ys i ≤ 21
        levels i g =
            storable_byte (level_byte_at ys i)
            (subst (λ (r : Kept). Storable r.level) (ap (λ (rs : List Kept). nth rs i) (sym filing_records) ∙ record_is ys k i g)
            (sound_level (grown_of w m (take k ss)) sound i (rw (← filing_records, records_length ys k) g)))

    pub filing_filled : 0 < k → k < a.records.shape.count → Filled ys (metric_number a.records.shape.metric) a.records.shape.wells a.records.shape.count k
    filing_filled some h = rw (a.is_wells, a.is_metric, a.is_count) (filled_so_far some (omega (arith, a.is_count)))

    -- the next of them, which is that of record `from`
    module _ {s : Strain} {from : ℕ} (some : 0 < k) (h : k < a.records.shape.count) (read : s ≡ strain_at a.records.image.now from)
        (o : from ≡ get_or (order_of a.records.image.now) k 0) where
      e : s ≡ get_or ss k nobody
      e = read ∙ ordered_strain a k h o

      -- it lies away from its parent
      pub filing_away : {seat : Seat} → Seated (metric_number a.records.shape.metric) s.profile (nth (first_of ys k).records) seat (parent_for (first_of ys k) s.profile) → 0 < seat.distance
      filing_away t =
          rw (t.distance ∙ (λ i. distance_to (a.is_metric i) (e i).profile (nth (f.says i).records (parent_for (f.says i) (e i).profile))))
          (front_away w m ss nobody a.library.layout.wells a.library.layout.metric ss_hold k some (omega (arith, ss_long, a.is_count)))

      pub filing_next : {zs : List ℕ} → Hung ys zs (size_of a.records.shape.wells a.records.shape.count) k s → Filing a.records.image.now buffer zs (k + 1)
      filing_next g = rw (add-one k) (record {
        headed = headed_still g.header f.headed;
        says = g.says ∙ (λ i. added (f.says i) (e i)) ∙ sym (grown_more w m ss nobody k some (omega (arith, ss_long, a.is_count)));
        long = g.long ∙ f.long;
        room = f.room;
        behind = λ j q. g.behind j (omega (arith, filing_size)) ∙ f.behind j q;
        spare = spares_to g f.spare;
      })

    pub filing_done : k ≡ a.records.shape.count → Bytes ys → ys ≡ filing_form a.records.image.now ++ drop (length (filing_form a.records.image.now)) buffer
    unfolding filing_form filed
    filing_done e z =
        buffer_is ys z (size_of w n) (laid_of f.headed (omega (arith, f.long, f.room, image_long)) (λ i g. f.spare i (omega (arith, e, a.is_count)))) buffer (grown_of w m ss) says f.long
        (λ j g. f.behind j (omega (arith, image_long)))
      where
        says : first_of ys (count_of ys) ≡ grown_of w m ss
        says = ap (first_of ys) (f.headed.count ∙ sym (e ∙ a.is_count)) ∙ f.says ∙ ap (grown_of w m) (take_all k ss (omega (arith, ss_long, e, a.is_count)))
