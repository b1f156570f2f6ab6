-- Two accepted requests that leave the same finished image are the same, but for the family and for an E that asks for nothing. And what two
-- readers find in a packet depends on its data bytes alone. Assumes nothing.
use mathlib.Core.Path.{◌≡◌, refl, sym, ap, subst, ◌∙◌}
use mathlib.Core.Logic.{◌≢◌, ⊎_elim, inl, inr}
use mathlib.Core.List.{List, [], ◌∷◌}
use Prim.Native.Nat.{ℕ, ◌≤◌}
use lib.ListN.{get_or, drop, set}
use lib.Seq.{get_or-set_other}
use Rattle.matrix.specs.Matrix.{Bytes}
use Rattle.video.specs.declared.Video.{Video}
use Rattle.video.specs.Video.{video_body, answered_edition, answered}
use Rattle.video.specs.Exception.{SameBut}
use Rattle.video.proofs.Alike.{exceptions, none_asked}
use Rattle.frames.specs.Frames.{avi_frame}
use Rattle.frames.specs.Editions.{read_by_e, ByE, avi_packet}
use Rattle.request.specs.declared.Request.{Request}
use Rattle.request.specs.Read.{read_of}
use Rattle.request.specs.Sections.{Bodies, walked, bodies_in}
use Rattle.request.specs.Bytes.{bodies_of, answered_as, with_video}
use Rattle.request.specs.Fits.{Fits}
use Rattle.request.proofs.Fits.{fits}
use Rattle.request.proofs.Back.{there_and_back}
use Rattle.request.proofs.Said.{bytes_walked}
use Rattle.decode.specs.ReadBack.{Ran}
use Rattle.decode.proofs.Answers.{at_most_one, read_back_lem}
use Rattle.promises.specs.Rules.{SameBytesBut}

-- the bodies of an input that is read are those of its request
own_bodies : (l : List ℕ) → Bytes l → (read_of l).refusal ≡ 0 → bodies_in (walked l) ≡ bodies_of (read_of l).request
own_bodies l b z =
    ap (λ (x : List ℕ). bodies_in (walked x)) (sym (there_and_back.back l b z)) ∙ ap bodies_in (bytes_walked (read_of l).request (fits l z).matrix)

-- what is answered differs in bytes 1 and 6
elsewhere : (v : Video) (i : ℕ) → i ≢ 1 → i ≢ 6 → get_or (video_body (answered v)) i 0 ≡ get_or (video_body v) i 0
elsewhere v i a b = get_or-set_other (set (video_body v) 1 0) 6 i (answered_edition v.edition) 0 b ∙ get_or-set_other (video_body v) 1 i 0 0 a

module _ (input other : List ℕ) (image before : List ℕ) (r : Ran input before image) (q : Ran other before image) where
  alike : answered_as (read_of input).request ≡ answered_as (read_of other).request
  alike = (at_most_one image).ends r.sized _ _ ((read_back_lem input before image).ends r) ((read_back_lem other before image).ends q)

  pub same_but_two : SameBytesBut input other
  same_but_two =
      let v : Fits (read_of input).request = fits input r.read in
      let w : Fits (read_of other).request = fits other q.read in
      let a : bodies_in (walked input) ≡ bodies_of (read_of input).request = own_bodies input r.bytes r.read in
      let b : bodies_in (walked other) ≡ bodies_of (read_of other).request = own_bodies other q.bytes q.read in
      let s : SameBut (read_of input).request.video (read_of other).request.video =
      (exceptions.only _ _ v.video w.video).0 (ap (λ (x : Request). x.video) alike) in
      record {
        others = ap (with_video []) a ∙ ap (λ (x : Request). with_video [] (bodies_of x)) alike ∙ sym (ap (with_video []) b);
        bytes = λ i one six.
            ap (λ (x : Bodies). get_or x.video i 0) a ∙ sym (elsewhere (read_of input).request.video i one six)
            ∙ ap (λ (x : Request). get_or (video_body x.video) i 0) alike
            ∙ elsewhere (read_of other).request.video i one six ∙ sym (ap (λ (x : Bodies). get_or x.video i 0) b);
        edition =
            let c = ap (λ (x : Bodies). get_or x.video 6 0) a in
            let d = ap (λ (x : Bodies). get_or x.video 6 0) b in
            ⊎_elim (λ e. inl (c ∙ e ∙ sym d))
            (λ n. inr (subst (λ (x : ℕ). x ≤ 1) (sym c) (none_asked _ v.video n.0), subst (λ (x : ℕ). x ≤ 1) (sym d) (none_asked _ w.video n.1)))
            s.edition;
      }

-- ---- the readers

abbrev by_data : List ℕ → ByE
by_data l = read_by_e (0 ∷ 0 ∷ l)

by_data_lem : (packet : List ℕ) → read_by_e packet ≡ by_data (drop 2 packet)
by_data_lem [] = refl
by_data_lem (x ∷ []) = refl
by_data_lem (x ∷ y ∷ l) = refl

pub shown_alike : (packet : List ℕ) (v : Video) → drop 2 packet ≡ drop 3 (avi_frame v) → read_by_e packet ≡ read_by_e (avi_packet v)
unfolding avi_frame
shown_alike packet v e = by_data_lem packet ∙ ap by_data e
