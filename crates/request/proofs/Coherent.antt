-- Row 9 of a request, and both calls' rules in order. Assumes nothing.
use mathlib.Core.Path.{◌≡◌, refl, sym, ap, ◌∙◌}
use mathlib.Core.Logic.{◌≢◌, ◌⊎◌, inl, inr}
use mathlib.Core.Bool.{Bool, true, false, false≢true, cond}
use mathlib.Core.List.{List, [], ◌∷◌}
use Prim.Native.Nat.{ℕ, zero, suc, ◌+◌, ◌<◌}
use lib.Dec.{eqb, leb, lit<}
use lib.ListN.{length, take, drop, get_or}
use lib.Seq.{get_or-drop}
use Rattle.lists.specs.Among.{among}
use Rattle.refusals.specs.Rows.{no_exact_pair, ◌when◌, Given}
use Rattle.refusals.specs.Tests.{◌if◌, lowest}
use Rattle.refusals.proofs.Tests.{lowest_given, answer_beside, in_stages, later}
use Rattle.clock.specs.Numbered.{Pair}
use Rattle.wiring.specs.declared.Wiring.TheVariants.{Board}
use Rattle.video.specs.declared.Video.{Video}
use Rattle.video.specs.Video.{no_video, video_in, PixelOutside, VideoOutside}
use Rattle.video.proofs.Fits.{outside_too}
use Rattle.sound.specs.declared.Sound.{Sound}
use Rattle.sound.specs.declared.Sound.TheVariants.{Off, On}
use Rattle.sound.specs.Sound.{sound_of, SoundOutside}
use Rattle.clock.specs.Answers.{no_pair}
use Rattle.clock.proofs.Rows.{refusals, is_above}
use Rattle.request.specs.Numbered.{Checked, emptied}
use Rattle.matrix.specs.Matrix.{no_matrix, Bytes}
use Rattle.request.specs.Sections.{Bodies, bodies_in, Walk, ends, not_allowed, whole, after, walk, walked, sections}
use Rattle.request.specs.Request.{Outside, request_in, request_of, NoPair, pair_rows, read_rules}
use Rattle.request.specs.Read.{bytes_tests, fields_tests, judged, checked, limited, pair_in, pair_for, read_of, ncts_of}
use Rattle.request.specs.Theorems.{Rows}
use Rattle.request.specs.Stages.{Stages}
use Rattle.request.proofs.Ordered.{fields_given, limits_given, asks_given, read_given, asked_there, Judged, accepted, passing, passed, is_outside}

-- where row 5 does not apply, the depth byte, the rate and the coherent byte are in range
in_range_lem : (v : Video) (rate channels coherent : ℕ) → (VideoOutside v → ⊥) → (SoundOutside (On rate channels coherent) → ⊥)
    → PixelOutside v ⊎ (6 < rate) ⊎ (1 < coherent) → ⊥
in_range_lem v rate channels coherent o p (inl h) = o (outside_too v h)
in_range_lem v rate channels coherent o p (inr (inl h)) = p (inl h)
in_range_lem v rate channels coherent o p (inr (inr h)) = p (inr (inr h))

-- the pair's stage, past rows 4 to 6, 17 and 20: row 9 of the call on single fields
pub nine : (b : Bodies) (c : Checked) → Bytes b.matrix → Judged b c → Given (pair_rows (request_in b)) (pair_for (request_in b)).refusal
unfolding pair_for
nine b c bytes j = go (sound_of b.audio) (λ o. inside (inr (inr (inl o))))
  where
    inside : Outside b → ⊥
    inside = (is_outside b bytes).fails j.inside

    go : (s : Sound) → (SoundOutside s → ⊥) → Given (no_exact_pair when NoPair (video_in b.video) s ∷ []) (pair_in (request_in b) s).refusal
    go (On rate channels coherent) o =
        let v : Video = video_in b.video in
        let past4 = later _ _ _ (refusals.pair v rate coherent) refl (λ f. false≢true (sym f ∙ j.mode)) in
        let past5 = later _ _ _ past4 refl (in_range_lem v rate channels coherent (λ h. inside (inr (inl h))) o) in
        later _ _ _ past5 refl ((is_above v).fails j.within)
    go Off o =
        lowest_given (no_exact_pair if false ∷ []) (no_exact_pair when ⊥ ∷ []) refl
        (refl, record { passes = λ t. absurd (false≢true t); fails = λ _ x. x }, λ _. tt)

abbrev number_of : Pair → ℕ
number_of p = p.refusal

-- the bytes of a walk's bodies are bytes of the input
none_there : Bytes []
none_there i = lit< tt

taken : (n : ℕ) (s : List ℕ) → Bytes s → Bytes (take n s)
taken zero s b = none_there
taken (suc n) [] b = none_there
taken (suc n) (x ∷ s) b = go (taken n s (λ j. b (suc j)))
  where
    go : Bytes (take n s) → Bytes (x ∷ take n s)
    go t zero = b zero
    go t (suc i) = t i

-- the body of section k
abbrev body_of : ℕ → Walk → List ℕ
body_of k ends = []
body_of k not_allowed = []
body_of k (whole bodies rest) = get_or bodies k []

left : (n : ℕ) (s : List ℕ) → Bytes s → Bytes (drop n s)
left n s b i = rw (get_or-drop n s i 0) (b (n + i))

joined : (body : List ℕ) (w : Walk) → Bytes body → ((k : ℕ) → Bytes (body_of k w)) → (k : ℕ) → Bytes (body_of k (after body w))
joined body ends b f k = none_there
joined body not_allowed b f k = none_there
joined body (whole bodies rest) b f zero = b
joined body (whole bodies rest) b f (suc k) = f k

parts : (cs : List (List ℕ)) (s : List ℕ) → Bytes s → (k : ℕ) → Bytes (body_of k (walk cs s))
unfolding walk
parts [] s b k = none_there
parts (c ∷ cs) [] b k = none_there
parts (c ∷ cs) (n ∷ s) b k = go (among n c) (leb n (length s)) (joined (take n s) (walk cs (drop n s)) (taken n s rest) (parts cs (drop n s) (left n s rest)) k)
  where
    rest : Bytes s
    rest i = b (suc i)

    go : (t u : Bool) → Bytes (body_of k (after (take n s) (walk cs (drop n s))))
        → Bytes (body_of k (cond t (cond u (after (take n s) (walk cs (drop n s))) ends) not_allowed))
    go true true h = h
    go true false h = none_there
    go false u h = none_there

matrix_bytes_lem : (w : Walk) → ((k : ℕ) → Bytes (body_of k w)) → Bytes (bodies_in w).matrix
matrix_bytes_lem ends f = none_there
matrix_bytes_lem not_allowed f = none_there
matrix_bytes_lem (whole bodies rest) f = f 3

pub matrix_there : (input : List ℕ) → Bytes input → Bytes (bodies_in (walked input)).matrix
unfolding walked
matrix_there input b = matrix_bytes_lem (walk sections input) (parts sections input b)

-- beside a refusal, of the walk or of the bodies
beside : (w : Walk) → (checked w).refusal ≢ 0 → (checked w).request ≡ record { wiring = Board; video = no_video; sound = Off; matrix = no_matrix }
unfolding judged
beside w = go (eqb (lowest (bytes_tests w)) 0)
  where
    bodies : Checked
    bodies = judged (bodies_in w)

    go : (b : Bool) → (cond b bodies (emptied (lowest (bytes_tests w)))).refusal ≢ 0
        → (cond b bodies (emptied (lowest (bytes_tests w)))).request ≡ record { wiring = Board; video = no_video; sound = Off; matrix = no_matrix }
    go true h = ap (λ (c : Checked). c.request) (answer_beside emptied _ (λ (c : Checked). c.refusal) (lowest (fields_tests (bodies_in w))) (λ _. refl) h)
    go false h = refl

-- row 9 of an input that is read
pub pair_given : (input : List ℕ) → Bytes input → (read_of input).refusal ≡ 0
    → Given (pair_rows (request_of (walked input))) (pair_for (read_of input).request).refusal
unfolding read_of
pair_given input b z = let j = passed (walked input) z in rw j.request (nine (bodies_in (walked input)) _ (matrix_there input b) j)

pub rows : (input : List ℕ) → Rows input
unfolding read_of ncts_of
rows input =
    let w : Walk = walked input in
    record {
      asks = λ b. asks_given w (matrix_there input b);
      read = λ b. read_given w (matrix_there input b);
      ncts = λ b.
          in_stages no_pair (pair_for (checked w).request) number_of (read_rules w) (pair_rows (request_of w)) (limited (checked w)).refusal refl refl
          (read_given w (matrix_there input b)) (pair_given input b);
      said = λ z. (asked_there w z).request;
      known = refl;
      none = beside w;
    }

pub stages : (b : Bodies) → Stages b
stages b =
    record {
      fields = fields_given b;
      limits = limits_given b;
      pair = λ bytes z l. nine b _ bytes (accepted b (passing b z l));
    }
