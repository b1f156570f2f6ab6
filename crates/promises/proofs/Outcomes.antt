-- Each promise allows its outcome, and no other: all are equations. Assumes nothing.
use mathlib.Core.Path.{◌≡◌, refl, sym, ap₂, ◌∙◌}
use Rattle.promises.specs.Settled.{Only, Settled}

-- the one law: an equation allows its own side, and no other
pub one : {A : Type 0} (a : A) → Only (λ (x : A). x ≡ a) a
one a = (refl, λ x y e f. e ∙ sym f)

two : {A B : Type 0} (a : A) (b : B) → Only {A = A × B} (λ o. (o.0 ≡ a) × (o.1 ≡ b)) (a, b)
two a b = ((refl, refl), λ x y e f. ap₂ (λ u v. (u, v)) (e.0 ∙ sym f.0) (e.1 ∙ sym f.1))

pub settled : Settled
settled = record {
  plan = λ request image writes. two _ _;
  decode = λ image request. two _ _;
  read = λ request. one _;
  ncts = λ request. one _;
  pairs = λ r. one _;
  line = λ request. two _ _;
  answer = λ refusal request. two _ _;
  verdict = λ refusal place. two _ _;
  preview = λ matrix a b c. one _;
  meter = λ numbers buffer. two _ _;
  take = λ pipe part. two _ _;
  end = λ pipe. two _ _;
  clock = λ video. one _;
  pair = λ video rate coherent. one _;
  avi = λ video. one _;
  audio = λ channels. one _;
  write = λ s address value. one _;
  turn = λ s. one _;
  enter = λ l address value. two _ _;
  vsync = λ l. two _ _;
  sent = λ image packet which i p. two _ _;
  part = λ image packet which. one _;
  refusal = λ image packet which. one _;
  mute = λ image packet. one _;
  matrix = λ image buffer mark out. two _ _;
  vet = λ s list. one _;
  class = λ address. one _;
  station_plan = λ request image writes. two _ _;
  station_decode = λ image request. two _ _;
  station_ncts = λ request. one _;
  station_preview = λ matrix a b c. one _;
  station_meter = λ numbers matrix. two _ _;
  station_pipe_take = λ pipe part. two _ _;
  station_pipe_end = λ pipe. two _ _;
  station_write = λ l address value. two _ _;
  station_vsync = λ l. two _ _;
  station_sent = λ image packet which. one _;
  station_mute = λ image packet. one _;
  station_matrix = λ image coefficients mark matrix. two _ _;
  station_vet = λ image packet coefficients mark list. one _;
  station_class = λ address. one _;
}
