-- A run of fair events, whoever made the list, leaves every free and read-only bit and every register that no list writes. Assumes nothing.
use mathlib.Core.Path.{◌≡◌, refl, sym, ap, ◌∙◌}
use mathlib.Core.Logic.{◌⊎◌, inl, inr}
use mathlib.Core.Bool.{Bool, true, false, false≢true, cond}
use mathlib.Core.List.{List, [], ◌∷◌}
use Prim.Native.Nat.{ℕ, zero, suc, ◌<◌, suc-le-suc}
use native.Mathlib.Nat.{zero-lt-suc}
use lib.Dec.{eqb, lit<}
use lib.ListN.{length, get_or}
use Rattle.bits.specs.Merge.{bit}
use Rattle.bits.proofs.Laws.{merge_bit}
use Rattle.map.specs.Map as reg
use Rattle.registers.specs.Classes.{class_at, read_only, free}
use Rattle.chip.specs.declared.Chip.{Chip}
use Rattle.chip.specs.Machine.{Write}
use Rattle.chip.specs.Write.{put, stored, image_after, refuses, write_of, vsync_of}
use Rattle.chip.proofs.Writes.{wrote, written_as}
use Rattle.writes.specs.List.{is_written}
use Rattle.writes.proofs.Carries.{masked}
use Rattle.cut.specs.Run.{Event, write, vsync, happens, cut, event, Fair, IsFair, Stays, Untouched}
use Rattle.cut.proofs.BytesKept.{at_set}
use Rattle.cut.proofs.Repeated.{vsync_image}

-- what holds of the image as it is, and of the image that a write would leave, holds after the write, taken or refused
pub after_write : (P : List ℕ → Type 0) (s : Chip) (a v : ℕ) → P s.image → P (image_after s a v) → P (write_of s a v).chip.image
unfolding put
after_write P s a v p q = rw (written_as s a v (refuses s a v) refl) (go (refuses s a v))
  where
    go : (r : Bool) → P (wrote s a v r).chip.image
    go true = p
    go false = q

module _ (w : Write) (s : Chip) (fair : Fair s.image w) where
  abbrev Kept : ℕ → ℕ → Type 0
  Kept a j = (bit j (free a) ≡ 1) ⊎ (bit j (read_only a) ≡ 1)

  -- the stored byte has the free and the read-only bits that stood there
  stored_bit : (j : ℕ) → j < 8 → Kept w.address j
      → bit j (stored w.address w.value s.image) ≡ bit j (get_or s.image w.address 0)
  unfolding stored
  stored_bit j h f = merge_bit 8 j (read_only w.address) (get_or s.image w.address 0) w.value h
      ∙ go (eqb (bit j (read_only w.address)) 1) refl f
    where
      go : (b : Bool) → eqb (bit j (read_only w.address)) 1 ≡ b → Kept w.address j
          → cond b (bit j (get_or s.image w.address 0)) (bit j w.value) ≡ bit j (get_or s.image w.address 0)
      go true e f = refl
      go false e (inl t) =
          sym (masked (free w.address) j w.value h t) ∙ ap (λ (n : ℕ). bit j n) fair.its_free
          ∙ masked (free w.address) j (get_or s.image w.address 0) h t
      go false e (inr t) = absurd (false≢true (sym e ∙ rw t))

  write_keeps : (a j : ℕ) → j < 8 → Kept a j → Stays a j s (write_of s w.address w.value).chip
  write_keeps a j h f = after_write (λ image. bit j (get_or image a 0) ≡ bit j (get_or s.image a 0)) s w.address w.value refl
      (at_set (λ (x : ℕ). bit j x ≡ bit j (get_or s.image a 0)) s.image w.address a _
      (λ e. rw e (stored_bit j h (rw e at f))) refl)

  write_leaves : (a : ℕ) → is_written a ≡ false → get_or (write_of s w.address w.value).chip.image a 0 ≡ get_or s.image a 0
  write_leaves a t = after_write (λ image. get_or image a 0 ≡ get_or s.image a 0) s w.address w.value refl
      (at_set (λ (x : ℕ). x ≡ get_or s.image a 0) s.image w.address a _
      (λ e. absurd (false≢true (sym t ∙ ap is_written e ∙ fair.its_register))) refl)

-- every event of a list is fair where it happens
abbrev pub Fairly : List Event → Chip → Type 0
Fairly es s = (k : ℕ) → k < length es → IsFair (event es k) (cut es s k)

pub later : (e : Event) (es : List Event) (s : Chip) → Fairly (e ∷ es) s → Fairly es (happens e s).chip
later e es s fair k h = fair (suc k) (suc-le-suc h)

pub keeps : (es : List Event) (s : Chip) → Fairly es s → (a j k : ℕ) → j < 8 → (bit j (free a) ≡ 1) ⊎ (bit j (read_only a) ≡ 1)
    → Stays a j s (cut es s k)
keeps es s fair a j zero h f = refl
keeps [] s fair a j (suc k) h f = refl
keeps (write w ∷ es) s fair a j (suc k) h f =
    keeps es (happens (write w) s).chip (later (write w) es s fair) a j k h f ∙ write_keeps w s (fair 0 (zero-lt-suc _)) a j h f
keeps (vsync ∷ es) s fair a j (suc k) h f =
    keeps es (vsync_of s) (later vsync es s fair) a j k h f ∙ ap (λ (image : List ℕ). bit j (get_or image a 0)) (vsync_image s)

pub leaves : (es : List Event) (s : Chip) → Fairly es s → (a k : ℕ) → is_written a ≡ false → get_or (cut es s k).image a 0 ≡ get_or s.image a 0
leaves es s fair a zero t = refl
leaves [] s fair a (suc k) t = refl
leaves (write w ∷ es) s fair a (suc k) t =
    leaves es (happens (write w) s).chip (later (write w) es s fair) a k t ∙ write_leaves w s (fair 0 (zero-lt-suc _)) a t
leaves (vsync ∷ es) s fair a (suc k) t =
    leaves es (vsync_of s) (later vsync es s fair) a k t ∙ ap (λ (image : List ℕ). get_or image a 0) (vsync_image s)

-- HDCP's bits 0xAF[7] and 0xAF[4] are free
protected : (bit 7 (free reg.hdcp_hdmi_cfg) ≡ 1) × (bit 4 (free reg.hdcp_hdmi_cfg) ≡ 1)
unfolding class_at
protected = (refl, refl)

pub untouched : (es : List Event) (s : Chip) → Fairly es s → Untouched es s
untouched es s fair = record {
  protection = λ k. (
    keeps es s fair reg.hdcp_hdmi_cfg 7 k (lit< tt) (inl protected.0),
    keeps es s fair reg.hdcp_hdmi_cfg 4 k (lit< tt) (inl protected.1),
  );
  bits = keeps es s fair;
  unwritten = leaves es s fair;
}
