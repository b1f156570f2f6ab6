-- The parts in which the code stores the list: one after the other they are the write list. Assumes nothing.
use mathlib.Core.Path.{◌≡◌, refl, sym, ap, ap₂, subst, ◌∙◌}
use mathlib.Core.Bool.{Bool, true, false, cond, not, ◌&&◌, ◌||◌}
use mathlib.Core.List.{List, [], ◌∷◌, ◌++◌, map, map-append}
use Prim.Native.Nat.{ℕ, ◌+◌, ◌-◌, ◌*◌, ◌<◌, ◌≤◌}
use native.Mathlib.Numerals.{add-one}
use native.Mathlib.Omega.{arith}
use lib.Dec.{eqb}
use lib.ListN.{length, get_or, take, drop, set, length-map, length-append}
use lib.Seq.{sets, take-suc, get_or-take, get_or-drop}
use borrow.Author.Tests.{eq-eqb, not-true}
use Rattle.lists.specs.Among.{among}
use Rattle.lists.specs.Find.{every}
use Rattle.lists.specs.Those.{those}
use Rattle.lists.specs.Same.{same_list}
use Rattle.lists.proofs.Both.{both_left, both_right}
use Rattle.lists.proofs.Compared.{same_decides}
use Rattle.lists.proofs.Emit.{sets_append, sets_front}
use Rattle.lists.proofs.Those.{those_append, no_more}
use Rattle.bits.specs.Merge.{merge}
use Rattle.map.specs.Map as reg
use Rattle.registers.specs.Classes.{class_at}
use Rattle.chip.specs.Machine.{Write, ◌gets◌, audio, packets, up, holds_of}
use Rattle.writes.specs.Rows.{from, table14, others}
use Rattle.writes.specs.Steps.{Step, ◌raising◌, each, coefficient_steps, avi_steps, audio_steps, middle}
use Rattle.writes.specs.List.{decided, written, already_there, the_three, stays, write_list, flat, fronted, is_written}
use Rattle.writes.specs.Columns.{closed}
use Rattle.writes.specs.Parts.{Puts, with_bits, moving, coefficient_pairs, avi_pairs, audio_pairs, both_pairs}
use Rattle.writes.proofs.Columns.{proper, Proper, is_proper, none_raised, raised_written}
use Rattle.writes.proofs.Counted.{none_in_run}
use Rattle.writes.proofs.Fewer.{there_bytes, bounded}
use Rattle.writes.proofs.Pairs.{length_flat}

-- ---- parts stored one after the other

flat_append : (xs ys : List Write) → flat (xs ++ ys) ≡ flat xs ++ flat ys
unfolding flat
flat_append [] ys = refl
flat_append (x ∷ xs) ys = ap (λ (l : List ℕ). x.address ∷ x.value ∷ l) (flat_append xs ys)

pub then : (d : List ℕ) (at : ℕ) (xs ys : List Write) {next last : ℕ} {e f : List ℕ} → Puts d at xs next e → Puts e next ys last f
    → Puts d at (xs ++ ys) last f
then d at xs ys {next} {last} {e} {f} (p, q) (r, s) =
    let n : 2 * next ≡ 2 * at + length (flat xs) = omega (arith, p, length_flat xs) in
    (r ∙ rw (p, length-append) (omega arith), s ∙ rw (q, n) (sym (ap (sets d (2 * at)) (flat_append xs ys) ∙ sets_append (flat xs) (flat ys) d (2 * at))))

-- nothing
pub nothing : (d : List ℕ) (at : ℕ) → Puts d at [] at d
unfolding flat
nothing d at = (omega arith, refl)

-- a pair
pub one : (d : List ℕ) (at a v : ℕ) → Puts d at (a gets v ∷ []) (at + 1) (set (set d (2 * at) a) (2 * at + 1) v)
unfolding flat
one d at a v = (refl, rw add-one refl)

-- ---- of some registers those that differ, one after the other

module _ (image bytes : List ℕ) where
  abbrev differ : ℕ → Bool
  differ a = not (eqb (get_or bytes a 0) (get_or image a 0))

  pub few : (rs : List ℕ) → length (moving image bytes rs) ≤ length rs
  few rs = let n = no_more differ rs in let m = length-map (those differ rs) (λ (a : ℕ). a gets get_or bytes a 0) in omega (arith, n, m)

  -- one that stands is not stored
  pub one_stands : (d : List ℕ) (at a : ℕ) → get_or bytes a 0 ≡ get_or image a 0 → Puts d at (moving image bytes (a ∷ [])) at d
  one_stands d at a n = rw (eq-eqb _ _ n) (nothing d at)

  -- of i + 1 of them those of i, and the next
  pub more : (rs : List ℕ) (i a : ℕ) → i < length rs → a ≡ get_or rs i 0
      → moving image bytes (take (i + 1) rs) ≡ moving image bytes (take i rs) ++ moving image bytes (a ∷ [])
  more rs i a h e =
      let t : take (i + 1) rs ≡ take i rs ++ (a ∷ []) = rw (add-one, take-suc rs i 0, e) in
      ap (λ (l : List ℕ). moving image bytes l) t ∙ ap (map (λ (a : ℕ). a gets get_or bytes a 0)) (those_append differ (take i rs) (a ∷ []))
      ∙ map-append (λ (a : ℕ). a gets get_or bytes a 0) (those differ (take i rs)) (those differ (a ∷ []))

-- a row that stands has none
pub row_stands : (image bytes d : List ℕ) (first count at : ℕ) → first + count ≤ length image → first + count ≤ length bytes
    → same_list (take count (drop first bytes)) (take count (drop first image)) ≡ true → Puts d at (moving image bytes (from first count)) at d
row_stands image bytes d first count at h k t =
    let e : take count (drop first bytes) ≡ take count (drop first image) = (same_decides _ _).passes t in
    let none : those (differ image bytes) (from first count) ≡ [] =
    none_in_run (differ image bytes) first count (λ a lo hi.
    let i : a - first < count = omega (arith, lo, hi) in
    let n : first + (a - first) ≡ a = omega (arith, lo) in
    let at_each : (l : List ℕ) → get_or l a 0 ≡ get_or (take count (drop first l)) (a - first) 0 = λ l. sym (get_or-take count (drop first l) (a - first) 0 i ∙ get_or-drop first l (a - first) 0 ∙ ap (λ (j : ℕ). get_or l j 0) n) in
    let q : get_or bytes a 0 ≡ get_or image a 0 = at_each bytes ∙ ap (λ (l : List ℕ). get_or l (a - first) 0) e ∙ sym (at_each image) in
    rw (eq-eqb _ _ q)) in
    subst (λ (rs : List ℕ). Puts d at (map (λ (a : ℕ). a gets get_or bytes a 0) rs) at d) (sym none) (nothing d at)

-- ---- the whole list

abbrev pub whole_list : List ℕ → List ℕ → List Write
whole_list image bytes =
    with_bits bytes reg.av_mute reg.set_av_mute_mask ++ moving image bytes table14 ++ coefficient_pairs image bytes
    ++ both_pairs image bytes ++ moving image bytes others ++ with_bits bytes reg.av_mute reg.clear_av_mute_mask

module _ (want : ℕ → ℕ) (image bytes : List ℕ) (closes : (a : ℕ) → a < 256 → get_or bytes a 0 ≡ closed want image a) where
  -- of some steps the writes that stay
  abbrev out : List Step → List Write
  out is = those (stays image) (map (written want image) is)

  out_append : (is js : List Step) → out (is ++ js) ≡ out is ++ out js
  out_append is js = ap (those (stays image)) (map-append (written want image) is js)
      ∙ those_append (stays image) (map (written want image) is) (map (written want image) js)

  -- a step to one of the three
  hold : (i : Step) → proper i ≡ true → among i.register the_three ≡ true → with_bits bytes i.register i.raised ≡ out (i ∷ [])
  unfolding written
  hold i t e =
      let p : Proper i = is_proper i t in
      let v : merge 8 i.raised i.raised (get_or bytes i.register 0) ≡ (written want image i).value =
      ap (merge 8 i.raised i.raised) (closes i.register p.small) ∙ raised_written want image i p in
      ap (λ (n : ℕ). i.register gets n ∷ []) v ∙ rw e

  -- steps to others, which raise nothing
  abbrev other : ℕ → Bool
  other a = proper (a raising 0) && not (among a the_three)

  plain : (a : ℕ) → other a ≡ true → moving image bytes (a ∷ []) ≡ out (a raising 0 ∷ [])
  unfolding written closed
  plain a t =
      let i : Step = a raising 0 in
      let p : Proper i = is_proper i (both_left (proper i) _ t) in
      let n : among a the_three ≡ false = not-true (among a the_three) (both_right (proper i) _ t) in
      let v : get_or bytes a 0 ≡ (written want image i).value =
      closes a p.small ∙ sym (none_raised _ _ _) ∙ raised_written want image i p in
      let s : stays image (written want image i) ≡ not (eqb (get_or bytes a 0) (get_or image a 0)) =
      ap (λ (b : Bool). b || not (already_there image (written want image i))) n
      ∙ ap not (there_bytes want image i ∙ ap (λ (x : ℕ). eqb x (get_or image a 0)) (sym v)) in
      go (eqb (get_or bytes a 0) (get_or image a 0)) (stays image (written want image i)) s (ap (λ (x : ℕ). a gets x) v)
    where
      go : (c r : Bool) {w : Write} → r ≡ not c → a gets get_or bytes a 0 ≡ w
          → map (λ (a : ℕ). a gets get_or bytes a 0) (cond (not c) (a ∷ []) [] ++ []) ≡ cond r (w ∷ []) [] ++ []
      go true r e q = rw e
      go false r e q = rw (e, q)

  plains : (rs : List ℕ) → every other rs ≡ true → moving image bytes rs ≡ out (each rs)
  plains [] t = refl
  plains (a ∷ rs) t =
      ap (map (λ (a : ℕ). a gets get_or bytes a 0)) (those_append (differ image bytes) (a ∷ []) rs)
      ∙ map-append (λ (a : ℕ). a gets get_or bytes a 0) (those (differ image bytes) (a ∷ [])) (those (differ image bytes) rs)
      ∙ ap₂ (λ (x y : List Write). x ++ y) (plain a (both_left (other a) _ t)) (plains rs (both_right (other a) _ t))
      ∙ sym (out_append (a raising 0 ∷ []) (each rs))

  -- a part after the other
  three_parts : (a b c : List Step) → out (a ++ b ++ c) ≡ out a ++ out b ++ out c
  three_parts a b c = out_append (a ++ b) c ∙ ap (λ (l : List Write). l ++ out c) (out_append a b)

  five_parts : (a b c d e : List Step) → out (a ++ b ++ c ++ d ++ e) ≡ out a ++ out b ++ out c ++ out d ++ out e
  five_parts a b c d e = three_parts (a ++ b ++ c) d e ∙ ap (λ (l : List Write). l ++ out d ++ out e) (three_parts a b c)

  join : {x y u v : List Write} → x ≡ u → y ≡ v → x ++ y ≡ u ++ v
  join e f = ap₂ (λ (x y : List Write). x ++ y) e f

  is_hold : (i : Step) → (proper i && among i.register the_three) ≡ true → with_bits bytes i.register i.raised ≡ out (i ∷ [])
  is_hold i t = hold i (both_left (proper i) _ t) (both_right (proper i) _ t)

  matrix_part : coefficient_pairs image bytes ≡ out coefficient_steps
  unfolding is_written class_at decided merge
  matrix_part =
      let up : Step = reg.coefficient_update raising reg.coefficient_update_mask in
      let again : Step = reg.coefficient_update raising reg.coefficient_update_mask in
      let down : Step = reg.coefficient_update raising 0 in
      let low : List ℕ = from reg.csc 2 in
      let rest : List ℕ = from (reg.coefficient_update + 1) (reg.csc_count - 3) in
      join (join (join (join (is_hold up refl) (plains low refl)) (is_hold again refl)) (plains rest refl)) (is_hold down refl)
      ∙ sym (five_parts (up ∷ []) (each low) (again ∷ []) (each rest) (down ∷ []))

  avi_part : avi_pairs image bytes ≡ out avi_steps
  unfolding is_written class_at decided merge
  avi_part =
      let up : Step = reg.infoframe_update raising reg.avi_packet_update_mask in
      let down : Step = reg.infoframe_update raising 0 in
      let rs : List ℕ = from reg.avi_infoframe_version reg.avi_infoframe_count in
      join (join (is_hold up refl) (plains rs refl)) (is_hold down refl) ∙ sym (three_parts (up ∷ []) (each rs) (down ∷ []))

  audio_part : audio_pairs image bytes ≡ out audio_steps
  unfolding is_written class_at decided merge
  audio_part =
      let up : Step = reg.infoframe_update raising reg.audio_infoframe_packet_update_mask in
      let down : Step = reg.infoframe_update raising 0 in
      let rs : List ℕ = from reg.audio_infoframe_version reg.audio_infoframe_count in
      join (join (is_hold up refl) (plains rs refl)) (is_hold down refl) ∙ sym (three_parts (up ∷ []) (each rs) (down ∷ []))

  both_part : both_pairs image bytes ≡ out (cond (up audio (holds_of packets image)) (audio_steps ++ avi_steps) (avi_steps ++ audio_steps))
  both_part = go (up audio (holds_of packets image))
    where
      go : (b : Bool) → cond b (audio_pairs image bytes ++ avi_pairs image bytes) (avi_pairs image bytes ++ audio_pairs image bytes)
          ≡ out (cond b (audio_steps ++ avi_steps) (avi_steps ++ audio_steps))
      go true = join audio_part avi_part ∙ sym (out_append audio_steps avi_steps)
      go false = join avi_part audio_part ∙ sym (out_append avi_steps audio_steps)

  as_listed : whole_list image bytes ≡ write_list want image
  unfolding is_written class_at decided merge middle
  as_listed =
      let mute : Step = reg.av_mute raising reg.set_av_mute_mask in
      let opening : Step = reg.av_mute raising reg.clear_av_mute_mask in
      let pair : List Step = cond (up audio (holds_of packets image)) (audio_steps ++ avi_steps) (avi_steps ++ audio_steps) in
      join (join (join (join (join (is_hold mute refl) (plains table14 refl)) matrix_part) both_part) (plains others refl)) (is_hold opening refl)
      ∙ sym (out_append ((mute ∷ []) ++ each table14 ++ coefficient_steps ++ pair ++ each others) (opening ∷ [])
      ∙ ap (λ (l : List Write). l ++ out (opening ∷ [])) (five_parts (mute ∷ []) (each table14) coefficient_steps pair (each others)))

  -- stored from the front, they leave the list there
  pub list_stored : (d : List ℕ) {n : ℕ} {e : List ℕ} → 256 ≤ length d → Puts d 0 (whole_list image bytes) n e
      → (n ≡ length (write_list want image)) × (e ≡ fronted (write_list want image) d)
  list_stored d {n} {e} long p =
      let ws : List Write = write_list want image in
      let q : Puts d 0 ws n e = subst (λ (l : List Write). Puts d 0 l n e) as_listed p in
      let few : length ws ≤ 128 = bounded want image in
      (omega (arith, q.0), q.1 ∙ sets_front (flat ws) d (omega (arith, length_flat ws)))
