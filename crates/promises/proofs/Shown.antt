-- An image in which a request ends shows the request's numbers. Assumes nothing.
use mathlib.Core.Path.{◌≡◌, refl, sym, ap, subst, ◌∙◌}
use mathlib.Core.Logic.{inl, inr, ⊎_elim}
use mathlib.Core.Bool.{Bool, true, false, false≢true, cond}
use mathlib.Core.List.{List, [], ◌∷◌}
use Prim.Native.Nat.{ℕ, zero, suc, ◌+◌, ◌*◌, ◌/◌, ◌%◌, ◌<◌, ◌≤◌}
use native.Mathlib.Omega.{arith}
use lib.Dec.{eqb}
use lib.ListN.{length, get_or}
use borrow.Author.Tests.{eqb-true, eqb-false}
use Rattle.lists.specs.Among.{among}
use Rattle.bits.specs.Merge.{bits_in}
use Rattle.bits.proofs.Below.{at_below}
use Rattle.refusals.specs.Rows.{number, First}
use Rattle.refusals.specs.Rows as rows
use Rattle.video.specs.declared.Video.{Video}
use Rattle.video.specs.Video.{depth, repetition, edition_number, ycc_quantisation, content_type, AsksE, answered}
use Rattle.video.proofs.Fits.{range_fits, depth_fits, repetition_fits, ycc_fits}
use Rattle.video.proofs.Alike.{exceptions}
use Rattle.request.specs.declared.Request.{Request}
use Rattle.request.specs.Numbered.{Checked}
use Rattle.request.specs.Sections.{longest}
use Rattle.request.specs.Read.{read_of, ncts_of}
use Rattle.request.specs.Bytes.{as_bytes, request_in_family}
use Rattle.request.specs.Fits.{Fits}
use Rattle.request.proofs.Fits.{fits}
use Rattle.plan.specs.Wanted.{wanted}
use Rattle.writes.specs.List.{finished}
use Rattle.decode.specs.Ends.{Ends}
use Rattle.decode.specs.Decode.{decode_of}
use Rattle.decode.specs.Theorems.{decode_rules}
use Rattle.decode.proofs.Answers.{exactly, refusals}
use Rattle.plan.specs.Places.{places, Shows, in_q, in_pr, depth_numbers}
use Rattle.promises.specs.Finished.{FinishedFields}
use Rattle.promises.specs.FieldByField.{FieldByField}
use Rattle.plan.proofs.Shown.{Picked, picked}
use Rattle.promises.proofs.Filled.{filled}

-- the Q that an encoding allows
abbrev allowed : ℕ → List ℕ
allowed encoding = cond (eqb encoding 0) (1 ∷ 2 ∷ []) (0 ∷ [])

is_allowed_lem : (encoding range : ℕ) → range ≤ 1 → among (in_q encoding range) (allowed encoding) ≡ true
is_allowed_lem encoding range h = go (eqb encoding 0)
  where
    two : (range : ℕ) → range ≤ 1 → among (get_or (1 ∷ 2 ∷ []) range 0) (1 ∷ 2 ∷ []) ≡ true
    two zero h = refl
    two (suc zero) h = refl
    two (suc (suc n)) h = absurd (omega arith)

    go : (b : Bool) → among (cond b (get_or (1 ∷ 2 ∷ []) range 0) 0) (cond b (1 ∷ 2 ∷ []) (0 ∷ [])) ≡ true
    go true = two range h
    go false = refl

-- the codes of a depth, and PR
is_pr : (repetition : ℕ) → repetition ≤ 2 → among (in_pr repetition) (0 ∷ 1 ∷ 3 ∷ []) ≡ true
is_pr repetition h = at_below (λ n. among (in_pr n) (0 ∷ 1 ∷ 3 ∷ [])) 3 repetition refl (omega arith)

is_code : (depth : ℕ) → depth ≤ 2 → among (get_or depth_numbers depth 0) depth_numbers ≡ true
is_code depth h = at_below (λ n. among (get_or depth_numbers n 0) depth_numbers) 3 depth refl (omega arith)

-- one of E's bits is asked for
asked_one : (v : Video) → (ycc_quantisation v * 4 + content_type v ≡ 0 → ⊥) → AsksE v
asked_one v h = go (eqb (ycc_quantisation v) 0) refl
  where
    go : (b : Bool) → eqb (ycc_quantisation v) 0 ≡ b → AsksE v
    go true e = inr (λ t. h (omega (arith, eqb-true (ycc_quantisation v) 0 e, t)))
    go false e = inl (eqb-false (ycc_quantisation v) 0 e)

-- the edition byte is answered as it is
abbrev exact : Video → Type 0
exact v = (answered v).edition ≡ v.edition

module _ (image : List ℕ) (sized : length image ≡ 256) where
  module _ (r : Request) (e : Ends r image) where
    abbrev q : Request
    q = request_in_family e.family r

    said : (read_of (as_bytes q)).request ≡ q
    said = ap (λ (c : Checked). c.request) e.acceptable.read

    in_fields : FinishedFields q (ncts_of (as_bytes q)) image
    in_fields =
        let z : (read_of (as_bytes q)).refusal ≡ 0 = ap (λ (c : Checked). c.refusal) e.acceptable.read in
        let ends : (a : ℕ) → a < 256 → get_or image a 0 ≡ finished (wanted (read_of (as_bytes q)).request) image a
        = λ a h. sym (e.stands a h) ∙ ap (λ (x : Request). finished (wanted x) image a) (sym said) in
        subst (λ (x : Request). FinishedFields x (ncts_of (as_bytes q)) image) said (filled (as_bytes q) image z image sized ends)

    fitting : Fits q
    fitting = subst Fits said (fits (as_bytes q) (ap (λ (c : Checked). c.refusal) e.acceptable.read))

    at : Picked (Shows image) (places q (ncts_of (as_bytes q)))
    at = picked (Shows image) (places q (ncts_of (as_bytes q))) in_fields.fields

    -- Q
    in_q_lem : among (bits_in 3 2 (get_or image 0x57 0)) (allowed (bits_in 6 5 (get_or image 0x55 0))) ≡ true
    in_q_lem =
        let y : bits_in 6 5 (get_or image 0x55 0) ≡ r.video.encoding = at 0x55 6 refl in
        let x : bits_in 3 2 (get_or image 0x57 0) ≡ in_q r.video.encoding r.video.range = at 0x57 3 refl in
        rw (x, y) (is_allowed_lem r.video.encoding r.video.range (range_fits q.video fitting.video))

    -- the depth
    in_depth : among (bits_in 3 0 (get_or image 0x4C 0)) depth_numbers ≡ true
    in_depth =
        let x : bits_in 3 0 (get_or image 0x4C 0) ≡ get_or depth_numbers (depth r.video) 0 = at 0x4C 3 refl in
        rw x (is_code (depth r.video) (depth_fits q.video fitting.video))

    -- the repetition
    in_pr_lem : among (bits_in 3 0 (get_or image 0x59 0)) (0 ∷ 1 ∷ 3 ∷ []) ≡ true
    in_pr_lem =
        let x : bits_in 3 0 (get_or image 0x59 0) ≡ in_pr (repetition r.video) = at 0x59 3 refl in
        rw x (is_pr (repetition r.video) (repetition_fits q.video fitting.video))

    in_both : bits_in 4 3 (get_or image 0x3B 0) ≡ bits_in 2 1 (get_or image 0x3B 0)
    in_both =
        let x : bits_in 4 3 (get_or image 0x3B 0) ≡ repetition r.video = at 0x3B 4 refl in
        let y : bits_in 2 1 (get_or image 0x3B 0) ≡ repetition r.video = at 0x3B 2 refl in
        x ∙ sym y

    -- YQ and CN
    in_yq : bits_in 7 6 (get_or image 0x59 0) ≡ ycc_quantisation r.video
    in_yq = at 0x59 7 refl

    in_cn : bits_in 5 4 (get_or image 0x59 0) ≡ content_type r.video
    in_cn = at 0x59 5 refl

    yq_small : bits_in 7 6 (get_or image 0x59 0) ≤ 1
    yq_small = rw in_yq (ycc_fits q.video fitting.video)

    in_edition_lem : edition_number r.video ≡ cond (eqb (bits_in 7 4 (get_or image 0x59 0)) 0) 0 1
    in_edition_lem = go (eqb (bits_in 7 4 (get_or image 0x59 0)) 0) refl
      where
        fifth : ℕ
        fifth = get_or image 0x59 0

        halves : bits_in 7 4 fifth ≡ ycc_quantisation r.video * 4 + content_type r.video
        halves =
            let quarter : fifth / 16 / 4 ≡ fifth / 64 = omega arith in
            let whole : fifth / 16 % 16 ≡ fifth / 16 / 4 % 4 * 4 + fifth / 16 % 4 = omega arith in
            whole ∙ rw (quarter, in_yq, in_cn)

        byte : exact q.video
        byte = ap (λ (x : Request). x.video.edition) e.answered

        go : (b : Bool) → eqb (bits_in 7 4 fifth) 0 ≡ b → edition_number r.video ≡ cond b 0 1
        go true z =
            let zero : ycc_quantisation r.video * 4 + content_type r.video ≡ 0 = sym halves ∙ eqb-true _ _ z in
            let none : AsksE q.video → ⊥ = ⊎_elim (λ n. n (omega (arith, zero))) (λ n. n (omega (arith, zero))) in
            omega (arith, exceptions.as_d q.video fitting.video none, byte)
        go false z = (exceptions.as_e q.video fitting.video (asked_one q.video (λ h. eqb-false _ _ z (halves ∙ h)))).0

-- neither 7 nor 10 applies
eleven : (image room : List ℕ) → length image ≡ 256 → longest ≤ length room → First (decode_rules image room) (decode_of image room).refusal
    → (decode_of image room).refusal ≡ 11
eleven image room sized long f = go f.place f.within f.numbered f.applies
  where
    go : (place : ℕ) → place < 3 → (decode_of image room).refusal ≡ number (rows.at (decode_rules image room) place).row
        → (rows.at (decode_rules image room) place).When → (decode_of image room).refusal ≡ 11
    go zero h n w = absurd (w sized)
    go (suc zero) h n w = omega arith
    go (suc (suc zero)) h n w = n
    go (suc (suc (suc p))) h n w = omega arith

pub shown : (image : List ℕ) → FieldByField image
shown image = record {
  stands = in_fields image;
  no_range = λ sized none room long.
      eleven image room sized long ((refusals image room).given.some (λ z.
      let a = (exactly image room).only z in false≢true (sym none ∙ in_q_lem image sized a.request a.ends)));
  no_depth = λ sized none room long.
      eleven image room sized long ((refusals image room).given.some (λ z.
      let a = (exactly image room).only z in false≢true (sym none ∙ in_depth image sized a.request a.ends)));
  no_repetition = λ sized none room long.
      eleven image room sized long ((refusals image room).given.some (λ z.
      let a = (exactly image room).only z in
      ⊎_elim (λ n. false≢true (sym n ∙ in_pr_lem image sized a.request a.ends)) (λ n. n (in_both image sized a.request a.ends)) none));
  no_quantisation = λ sized above room long.
      eleven image room sized long ((refusals image room).given.some (λ z.
      let a = (exactly image room).only z in omega (arith, above, yq_small image sized a.request a.ends)));
  which_edition = in_edition_lem image;
}
