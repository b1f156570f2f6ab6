-- What a pen has written, part after part. Assumes nothing.
use mathlib.Core.Path.{◌≡◌, refl, ◌∙◌, subst}
use mathlib.Core.List.{List, [], ◌∷◌, ◌++◌}
use Prim.Native.Nat.{ℕ, ◌+◌, ◌<◌, ◌≤◌}
use lib.ListN.{length, get_or, take}
use lib.Seq.{take_all}
use Rattle.chip.specs.Machine.{Write}
use Rattle.writes.specs.declared.Pen.{Pen}
use Rattle.writes.specs.List.{write_list, fronted}
use Rattle.writes.specs.Columns.{closed}
use Rattle.writes.specs.Parts.{moving}
use Rattle.writes.specs.Pen.{Penned}
use Rattle.writes.proofs.Parts.{then, nothing, more, whole_list, list_stored}

abbrev Pairs : Type 0
Pairs = List ℕ → List ℕ → List Write

pub writes_nothing : (pen : Pen) → Penned pen (λ image bytes. []) pen
writes_nothing pen = record { same_buffer = refl; same_room = refl; same_image = refl; same_bytes = refl; puts = nothing pen.writes.now pen.at }

-- one part after the other
pub writes_then : (xs ys : Pairs) {a b c : Pen} → Penned a xs b → Penned b ys c → Penned a (λ image bytes. xs image bytes ++ ys image bytes) c
writes_then xs ys {a} {b} {c} p q = record {
  same_buffer = q.same_buffer ∙ p.same_buffer;
  same_room = q.same_room ∙ p.same_room;
  same_image = q.same_image ∙ p.same_image;
  same_bytes = q.same_bytes ∙ p.same_bytes;
  puts = then a.writes.now a.at (xs a.image.now a.bytes.now) (ys a.image.now a.bytes.now) p.puts (rw (p.same_image, p.same_bytes) at q.puts);
}

-- the same pairs in other words
pub writes_as : (xs ys : Pairs) {a b : Pen} → ys a.image.now a.bytes.now ≡ xs a.image.now a.bytes.now → Penned a xs b → Penned a ys b
writes_as xs ys e p = record {
  same_buffer = p.same_buffer;
  same_room = p.same_room;
  same_image = p.same_image;
  same_bytes = p.same_bytes;
  puts = rw e p.puts;
}

-- of some registers those that differ: what is written after i of them, and after all
abbrev pub first_of : List ℕ → ℕ → Pairs
first_of rs i = λ image bytes. moving image bytes (take i rs)

pub writes_next : (rs : List ℕ) (i a : ℕ) {start pen after : Pen} → i < length rs → a ≡ get_or rs i 0 → Penned start (first_of rs i) pen
    → Penned pen (λ image bytes. moving image bytes (a ∷ [])) after → Penned start (first_of rs (i + 1)) after
writes_next rs i a {start} h e p q =
    writes_as _ (first_of rs (i + 1)) (more start.image.now start.bytes.now rs i a h e)
    (writes_then (first_of rs i) (λ image bytes. moving image bytes (a ∷ [])) p q)

pub writes_all : (rs : List ℕ) (i : ℕ) {start pen : Pen} → length rs ≤ i → Penned start (first_of rs i) pen
    → Penned start (λ image bytes. moving image bytes rs) pen
writes_all rs i {start} {pen} h p = subst (λ (l : List ℕ). Penned start (λ image bytes. moving image bytes l) pen) (take_all i rs h) p

-- all parts, from the front of a buffer on
pub writes_list : (want : ℕ → ℕ) {pen last : Pen} → ((a : ℕ) → a < 256 → get_or pen.bytes.now a 0 ≡ closed want pen.image.now a)
    → pen.at ≡ 0 → 256 ≤ length pen.writes.now → Penned pen whole_list last
    → (last.at ≡ length (write_list want pen.image.now)) × (last.writes.now ≡ fronted (write_list want pen.image.now) pen.writes.now)
writes_list want {pen} {last} closes front long w =
    list_stored want pen.image.now pen.bytes.now closes pen.writes.now long (rw front at w.puts)
