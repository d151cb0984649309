-- A library with one strain more stands in front of its buffer. Assumes nothing.
use mathlib.Core.Path.{◌≡◌, sym, ◌∙◌, ap, subst, transport}
use mathlib.Core.List.{List, ◌++◌}
use Prim.Native.Nat.{ℕ, suc, ◌+◌, ◌*◌, ◌≤◌, ◌<◌}
use native.Mathlib.Decide.{ℕ_discrete}
use native.Mathlib.Nat.{mul-suc}
use native.Mathlib.Omega.{arith}
use lib.IntN.{ℤ}
use lib.ListN.{length, take, drop}
use lib.Seq.{sets}
use Rattle.image.specs.Fields.{wells_of, metric_of, count_of, root_of, spare_at, size_of}
use Rattle.image.specs.Library.{Library}
use Rattle.image.specs.Strains.{Strain}
use Rattle.content.specs.Content.{Content, nth, first_of, content_of}
use Rattle.content.specs.Bytes.{header_bytes, bytes_of, Bytes}
use Rattle.content.specs.Adding.{parent_for, added}
use Rattle.content.proofs.Front.{Laid, buffer_is, image_long}
use Rattle.content.specs.Headed.{Headed}
use Rattle.writer.specs.Moved.{Moved}
use Rattle.writer.proofs.Heads.{headed_still}
use Rattle.adding.specs.Filled.{Filled}
use Rattle.adding.specs.Steps.{Seated, Hung}
use Rattle.adding.specs.declared.seat.Seat.{Seat}
use Rattle.adding.proofs.Widens.{stated_is, widened_head, widened_says, widened_spare, widened_behind, widened_long, widened_filled}

-- a buffer that is headed and has room is laid out
pub laid_of : {zs : List ℕ} {wells metric count root : ℕ} → Headed zs wells metric count root → size_of wells count ≤ length zs
    → ((i : ℕ) → i < count → spare_at zs i ≡ 0) → Laid zs (size_of wells count)
laid_of h room spare = record {
  is_size = rw (h.wells, h.count);
  room = room;
  edition = h.edition;
  profiles_offset = rw h.count h.profiles_offset;
  nodes_offset = h.nodes_offset;
  spare = λ i g. spare i (omega (arith, h.count));
}

-- the spare bytes of the records before k and of record k
pub spares_to : {ys zs : List ℕ} {size k : ℕ} {s : Strain} → Hung ys zs size k s → ((i : ℕ) → i < k → spare_at ys i ≡ 0) → (i : ℕ) → i < suc k → spare_at zs i ≡ 0
spares_to {zs = zs} {k = k} g old i h = go (ℕ_discrete i k)
  where
    go : Dec (i ≡ k) → spare_at zs i ≡ 0
    go (yes e) = rw e g.new_spare
    go (no ne) = g.spare i (omega (arith, ne)) ∙ old i (omega (arith, ne))

module _ (buffer : List ℕ) (stated : ℕ) (l : Library (take stated buffer)) (within : stated ≤ length buffer) (moved ys zs : List ℕ)
    (m : Moved buffer moved (16 + 8 * count_of (take stated buffer)) stated)
    (e : ys ≡ sets moved 0 (header_bytes (wells_of (take stated buffer)) (metric_of (take stated buffer)) (suc (count_of (take stated buffer))) (root_of (take stated buffer))))
    (room : size_of (wells_of (take stated buffer)) (suc (count_of (take stated buffer))) ≤ length buffer) (s : Strain)
    (h : Hung ys zs (size_of (wells_of (take stated buffer)) (suc (count_of (take stated buffer)))) (count_of (take stated buffer)) s) (b : Bytes zs) where
  abbrev n : ℕ
  n = count_of (take stated buffer)

  abbrev size : ℕ
  size = size_of (wells_of (take stated buffer)) (suc n)

  head : Headed zs (wells_of (take stated buffer)) (metric_of (take stated buffer)) (suc n) (root_of (take stated buffer))
  head = headed_still h.header (widened_head buffer stated l within moved ys m e room)

  long : length zs ≡ length buffer
  long = h.long ∙ widened_long buffer stated l within moved ys m e room

  laid : Laid zs size
  laid = laid_of head (omega (arith, long, room)) (spares_to h (widened_spare buffer stated l within moved ys m e room))

  says : first_of zs (count_of zs) ≡ added (content_of (take stated buffer)) s
  says =
      ap (first_of zs) head.count ∙ h.says
      ∙ ap (λ (c : Content). added c s) (widened_says buffer stated l within moved ys m e room)

  grown_buffer : zs ≡ bytes_of (added (content_of (take stated buffer)) s) ++ drop (length (bytes_of (added (content_of (take stated buffer)) s))) buffer
  grown_buffer = buffer_is zs b size laid buffer (added (content_of (take stated buffer)) s) says long (λ j g. h.behind j g ∙ widened_behind buffer stated l within moved ys m e room j g)

  grown_long : length (bytes_of (added (content_of (take stated buffer)) s)) ≡ stated + (8 + 2 * wells_of (take stated buffer))
  grown_long =
      image_long zs b size laid (added (content_of (take stated buffer)) s) says
      ∙ omega (arith, stated_is buffer stated l within, mul-suc (wells_of (take stated buffer)) n)

-- the library in front of a buffer, laid out anew for one record more, in the numbers that the code reads
pub record Relaid (buffer : List ℕ) (stated metric wells count : ℕ) (ys : List ℕ) : Type 0 where
  pub library : Library (take stated buffer)
  pub is_metric : metric ≡ metric_of (take stated buffer)
  pub is_wells : wells ≡ wells_of (take stated buffer)
  pub is_count : count ≡ count_of (take stated buffer)
  pub room : stated + (8 + 2 * wells) ≤ length buffer
  pub moved : List ℕ
  pub widened : Moved buffer moved (16 + 8 * count) stated
  pub headed : ys ≡ sets moved 0 (header_bytes wells metric (count + 1) (root_of (take stated buffer)))

module _ {buffer : List ℕ} {stated metric wells count : ℕ} {ys : List ℕ} (r : Relaid buffer stated metric wells count ys) where
  within : stated ≤ length buffer
  within = omega (arith, r.room)

  next : count + 1 ≡ suc (count_of (take stated buffer))
  next = omega (arith, r.is_count)

  moved_is : Moved buffer r.moved (16 + 8 * count_of (take stated buffer)) stated
  moved_is = subst (λ (k : ℕ). Moved buffer r.moved (16 + 8 * k) stated) r.is_count r.widened

  head_is : ys ≡ sets r.moved 0 (header_bytes (wells_of (take stated buffer)) (metric_of (take stated buffer)) (suc (count_of (take stated buffer))) (root_of (take stated buffer)))
  head_is = r.headed ∙ (λ i. sets r.moved 0 (header_bytes (r.is_wells i) (r.is_metric i) (next i) (root_of (take stated buffer))))

  room_is : size_of (wells_of (take stated buffer)) (suc (count_of (take stated buffer))) ≤ length buffer
  room_is = omega (arith, r.room, r.is_wells, stated_is buffer stated r.library within, mul-suc (wells_of (take stated buffer)) (count_of (take stated buffer)))

  pub grow_filled : count < 1024 → Filled ys metric wells (count + 1) count
  grow_filled h = rw (r.is_metric, r.is_wells, next, r.is_count) (widened_filled buffer stated r.library within r.moved ys moved_is head_is room_is (omega (arith, r.is_count)))

  pub grow_seated : {x : List ℤ} {seat : Seat} → Seated (metric_of (take stated buffer)) x (nth (content_of (take stated buffer)).records) seat (parent_for (content_of (take stated buffer)) x)
      → Seated metric x (nth (first_of ys count).records) seat (parent_for (first_of ys count) x)
  grow_seated {x} {seat} s = transport (λ i. Seated (sym r.is_metric i) x (nth (sym same i).records) seat (parent_for (sym same i) x)) s
    where
      same : first_of ys count ≡ content_of (take stated buffer)
      same = ap (first_of ys) r.is_count ∙ widened_says buffer stated r.library within r.moved ys moved_is head_is room_is

  pub grow_done : (zs : List ℕ) (s : Strain) → Hung ys zs (size_of wells (count + 1)) count s → Bytes zs
      → (zs ≡ bytes_of (added (content_of (take stated buffer)) s) ++ drop (length (bytes_of (added (content_of (take stated buffer)) s))) buffer)
      × (length (bytes_of (added (content_of (take stated buffer)) s)) ≡ stated + (8 + 2 * wells))
  grow_done zs s h b =
      let h' = transport (λ i. Hung ys zs (size_of (r.is_wells i) (next i)) (r.is_count i) s) h in (
        grown_buffer buffer stated r.library within r.moved ys zs moved_is head_is room_is s h' b,
        grown_long buffer stated r.library within r.moved ys zs moved_is head_is room_is s h' b ∙ ap (λ (k : ℕ). stated + (8 + 2 * k)) (sym r.is_wells),
      )
