-- Any two answers that a promise allows are equal, for what they are told as tells all of them. Assumes nothing.
use mathlib.Core.Path.{◌≡◌, refl, sym, ap, ap₂, ◌∙◌}
use mathlib.Core.Logic.{◌≢◌}
use mathlib.Core.HLevel.{¬_prop, is_prop→PathP}
use mathlib.Core.Bool.{Bool, true, false, cond}
use mathlib.Core.List.{List}
use Prim.Native.Nat.{ℕ, ◌≤◌}
use native.Mathlib.Bridge.{le_prop}
use native.Mathlib.Omega.{arith}
use Rattle.std.specs.Prelude.{Option, Some, None, Result, Ok, Err, IfOk, IfErr}
use Rattle.refusals.specs.declared.Refusal.{Refusal}
use Rattle.refusals.specs.declared.Refusal.TheVariants.{BadPair}
use Rattle.refusals.specs.Numbered.{refusal_number, given_by, ToldApart}
use Rattle.clock.specs.Numbered.{clock_told, pair_told}
use Rattle.frames.specs.Numbered.{Avi, Audio}
use Rattle.frames.specs.Answers.{avi_told, audio_told}
use Rattle.matrix.specs.Numbered.{pixel_told}
use Rattle.meter.specs.Numbered.{Converted, Metered, converted_told, metered_told}
use Rattle.request.specs.declared.Request.{Request}
use Rattle.request.specs.declared.Known.{Known}
use Rattle.request.specs.Numbered.{BodyEnds, Checked, places_told, ask_told, limit_number, checked_told, within_told}
use Rattle.pipe.specs.declared.number.Number.{Number}
use Rattle.pipe.specs.declared.Said.{Said}
use Rattle.pipe.specs.declared.Said.TheVariants.{NoPipe, Open, Accepted}
use Rattle.pipe.specs.declared.Said.TheVariants as said
use Rattle.pipe.specs.Numbered.{Piped, piped_told}
use Rattle.edid.specs.Found.{monitor_told, choice_told}
use Rattle.line.specs.declared.buffer.Text.{Text}
use Rattle.chip.specs.declared.Chip.{Chip}
use Rattle.chip.specs.Numbered.{Wrote, wrote_told, applied_told}
use Rattle.views.specs.Numbered.{Count, Part, Mute, count_told, part_told, mute_told}
use Rattle.plan.specs.Numbered.{Planned, planned_told}
use Rattle.decode.specs.Numbered.{Decoded, decoded_told}
use Rattle.vendor.specs.declared.Fault.{Fault}
use Rattle.vendor.specs.declared.Fault.TheVariants.{Refused, Pair as PairAt}
use Rattle.vendor.specs.Numbered.{Verdict, verdict_told}
use Rattle.promises.specs.Settled.{Settles}
use Rattle.promises.specs.SettledAnswers.{SettledAnswers}

-- what answers are told as tells all of them: the number of a refusal, which is none's beside a value, and the value
record TellsAll {T X : Type 0} (tell : Result T Refusal → X) : Type 0 where
  pub number : X → ℕ
  pub none : (x : T) → number (tell (Ok x)) ≡ 0
  pub some : (e : Refusal) → number (tell (Err e)) ≡ refusal_number e
  pub value : (x y : T) → tell (Ok x) ≡ tell (Ok y) → x ≡ y

-- ---- what each kind of answer is told as

given : TellsAll (given_by {T = Unit {0}})
given = record { number = λ n. n; none = λ x. refl; some = λ e. refl; value = λ x y p. refl }

planned : TellsAll planned_told
planned = record { number = λ a. a.refusal; none = λ x. refl; some = λ e. refl; value = λ x y p. ap (λ (a : Planned). a.count) p }

decoded : TellsAll decoded_told
decoded = record { number = λ a. a.refusal; none = λ x. refl; some = λ e. refl; value = λ x y p. ap (λ (a : Decoded). a.count) p }

metered : TellsAll metered_told
metered = record { number = λ a. a.refusal; none = λ x. refl; some = λ e. refl; value = λ x y p. ap (λ (a : Metered). a.count) p }

counted : TellsAll count_told
counted = record { number = λ a. a.refusal; none = λ x. refl; some = λ e. refl; value = λ x y p. ap (λ (a : Count). a.count) p }

muted : TellsAll mute_told
muted = record { number = λ a. a.refusal; none = λ x. refl; some = λ e. refl; value = λ x y p. ap (λ (a : Mute). a.mute) p }

asked : TellsAll ask_told
asked = record { number = λ a. a.refusal; none = λ x. refl; some = λ e. refl; value = λ x y p. ap (λ (a : Checked). a.request) p }

within : (r : Request) → TellsAll (within_told r)
within r = record { number = λ a. a.refusal; none = λ x. refl; some = λ e. refl; value = λ x y p. ap (λ (a : Checked). a.request) p }

walked : TellsAll places_told
walked = record { number = λ a. a.refusal; none = λ x. refl; some = λ e. refl; value = λ x y p. ap (λ (a : BodyEnds). a.ends) p }

converted : TellsAll converted_told
converted = record { number = λ a. a.refusal; none = λ x. refl; some = λ e. refl; value = λ x y p. ap (λ (a : Converted). a.matrix) p }

avi : TellsAll avi_told
avi = record { number = λ a. a.refusal; none = λ x. refl; some = λ e. refl; value = λ x y p. ap (λ (a : Avi). a.bytes) p }

audio : TellsAll audio_told
audio = record { number = λ a. a.refusal; none = λ x. refl; some = λ e. refl; value = λ x y p. ap (λ (a : Audio). a.bytes) p }

wrote : (s : Chip) → TellsAll (wrote_told s)
wrote s = record { number = λ a. a.refusal; none = λ x. refl; some = λ e. refl; value = λ x y p. ap (λ (a : Wrote). a.chip) p }

clock : TellsAll clock_told
clock = record {
  number = λ a. a.refusal;
  none = λ x. refl;
  some = λ e. refl;
  value = λ x y p i. record { num = (p i).num; den = (p i).den };
}

pair : TellsAll pair_told
pair = record {
  number = λ a. a.refusal;
  none = λ x. refl;
  some = λ e. refl;
  value = λ x y p i. record { n = (p i).n; cts = (p i).cts };
}

pixel : TellsAll pixel_told
pixel = record {
  number = λ a. a.refusal;
  none = λ x. refl;
  some = λ e. refl;
  value = λ x y p i. record { a = (p i).a; b = (p i).b; c = (p i).c };
}

monitor : TellsAll monitor_told
monitor = record {
  number = λ a. a.refusal;
  none = λ x. refl;
  some = λ e. refl;
  value = λ x y p i. record { vics_low = (p i).vics_low; vics_high = (p i).vics_high; rates_2 = (p i).rates_2; rates_8 = (p i).rates_8 };
}

choice : TellsAll choice_told
choice = record {
  number = λ a. a.refusal;
  none = λ x. refl;
  some = λ e. refl;
  value = λ x y p i. record { place = (p i).place; at = (p i).at };
}

one_or_none : (a b : Bool) → ◌≡◌ {A = ℕ} (cond a 1 0) (cond b 1 0) → a ≡ b
one_or_none true true p = refl
one_or_none true false p = grind arith
one_or_none false true p = grind arith
one_or_none false false p = refl

part : TellsAll part_told
part = record {
  number = λ a. a.refusal;
  none = λ x. refl;
  some = λ e. refl;
  value = λ x y p i.
      record { held = one_or_none x.held y.held (ap (λ (a : Part). a.held) p) i; start = (p i).start; len = (p i).len };
}

-- a line of the programs
text : (x y : Text) → x.count ≡ y.count → x.bytes ≡ y.bytes → x ≡ y
text x y p q = λ i. record { bytes = q i; count = p i; fits = is_prop→PathP (λ j. p j ≤ 80) (λ j. le_prop) x.fits y.fits i }

one_text : (n : ℕ) (l : List ℕ) → Settles {A = Text} (λ t. (t.count ≡ n) × (t.bytes ≡ l))
one_text n l x y p q = text x y (p.0 ∙ sym q.0) (p.1 ∙ sym q.1)

-- what a pipe says
number : (a b : Number) → a.byte ≡ b.byte → a ≡ b
number a b p = λ i. record { byte = p i; some = is_prop→PathP (λ j. p j ≢ 0) (λ j. ¬_prop) a.some b.some i }

abbrev answered : Piped → ℕ
answered a = a.answered

abbrev refusal : Piped → ℕ
refusal a = a.refusal

none_is_one : {A : Type 0} → ◌≡◌ {A = ℕ} 0 1 → A
none_is_one p = absurd (grind arith)

one_said : (r s : Said) → piped_told r ≡ piped_told s → r ≡ s
one_said NoPipe NoPipe p = refl
one_said NoPipe Open p = grind (arith, ap refusal p)
one_said NoPipe (Accepted c) p = none_is_one (ap answered p)
one_said NoPipe (said.Refused n) p = none_is_one (ap answered p)
one_said Open NoPipe p = grind (arith, ap refusal p)
one_said Open Open p = refl
one_said Open (Accepted c) p = none_is_one (ap answered p)
one_said Open (said.Refused n) p = none_is_one (ap answered p)
one_said (Accepted c) NoPipe p = none_is_one (sym (ap answered p))
one_said (Accepted c) Open p = none_is_one (sym (ap answered p))
one_said (Accepted c) (Accepted d) p = ap Accepted (ap (λ (a : Piped). a.count) p)
one_said (Accepted c) (said.Refused n) p = absurd (n.some (sym (ap refusal p)))
one_said (said.Refused n) NoPipe p = none_is_one (sym (ap answered p))
one_said (said.Refused n) Open p = none_is_one (sym (ap answered p))
one_said (said.Refused n) (Accepted c) p = absurd (n.some (ap refusal p))
one_said (said.Refused n) (said.Refused m) p = ap said.Refused (number n m (ap refusal p))

two_said : (x : Piped) (l : List ℕ) → Settles {A = Said × List ℕ} (λ o. (piped_told o.0 ≡ x) × (o.1 ≡ l))
two_said x l r s p q = ap₂ (λ u v. (u, v)) (one_said r.0 s.0 (p.0 ∙ sym q.0)) (p.1 ∙ sym q.1)

-- ---- any two of them

module _ (t : ToldApart) where
  -- the one law: two answers that are told alike are one
  one_answer : {T X : Type 0} (tell : Result T Refusal → X) → TellsAll tell → (r s : Result T Refusal) → tell r ≡ tell s → r ≡ s
  one_answer tell a (Ok x) (Ok y) p = ap Ok (a.value x y p)
  one_answer tell a (Ok x) (Err f) p = absurd (t.some f (sym (sym (a.none x) ∙ ap a.number p ∙ a.some f)))
  one_answer tell a (Err e) (Ok y) p = absurd (t.some e (sym (a.some e) ∙ ap a.number p ∙ a.none y))
  one_answer tell a (Err e) (Err f) p = ap Err (t.apart e f (sym (a.some e) ∙ ap a.number p ∙ a.some f))

  -- so a promise of what it is told as settles it, and with it what is left in lent bytes
  one : {T X : Type 0} (tell : Result T Refusal → X) → TellsAll tell → (x : X) → Settles {A = Result T Refusal} (λ r. tell r ≡ x)
  one tell a x r s p q = one_answer tell a r s (p ∙ sym q)

  two : {T X L : Type 0} (tell : Result T Refusal → X) → TellsAll tell → (x : X) (l : L)
      → Settles {A = Result T Refusal × L} (λ o. (tell o.0 ≡ x) × (o.1 ≡ l))
  two tell a x l r s p q = ap₂ (λ u v. (u, v)) (one_answer tell a r.0 s.0 (p.0 ∙ sym q.0)) (p.1 ∙ sym q.1)

  -- what a write says, and leaves in the state
  applied : (w : Wrote) → Settles {A = Result (Unit {0}) Refusal × Chip} (λ o. applied_told o.1 o.0 ≡ w)
  applied w r s p q =
      let h = p ∙ sym q in
      ap₂ (λ u v. (u, v)) (one_answer given_by given r.0 s.0 (ap (λ (a : Wrote). a.refusal) h)) (ap (λ (a : Wrote). a.chip) h)

  -- a limit, and what is known of a request beside it
  one_limit : (l k : Option Refusal) → limit_number l ≡ limit_number k → l ≡ k
  one_limit None None p = refl
  one_limit None (Some f) p = absurd (t.some f (sym p))
  one_limit (Some e) None p = absurd (t.some e p)
  one_limit (Some e) (Some f) p = ap Some (t.apart e f p)

  -- a value is a request that is asked for, and beside a refusal none is
  one_known : (x a : Checked) (r s : Result Known Refusal)
      → checked_told r ≡ x → IfOk r (λ k. ask_told (Ok k.request) ≡ a) → IfErr r (λ e. ask_told (Err e) ≡ a)
      → checked_told s ≡ x → IfOk s (λ k. ask_told (Ok k.request) ≡ a) → IfErr s (λ e. ask_told (Err e) ≡ a)
      → r ≡ s
  one_known x a (Ok k) (Ok j) p b c q d e =
      let h = p ∙ sym q in
      ap₂ (λ u l. Ok (record { request = u; limit = l })) (ap (λ (y : Checked). y.request) h)
      (one_limit k.limit j.limit (ap (λ (y : Checked). y.refusal) h))
  one_known x a (Ok k) (Err f) p b c q d e = absurd (t.some f (ap (λ (y : Checked). y.refusal) (e ∙ sym b)))
  one_known x a (Err f) (Ok j) p b c q d e = absurd (t.some f (ap (λ (y : Checked). y.refusal) (c ∙ sym d)))
  one_known x a (Err f) (Err g) p b c q d e = ap Err (t.apart f g (ap (λ (y : Checked). y.refusal) (p ∙ sym q)))

  -- a verdict: 15 stands beside a pair alone
  one_verdict : (r s : Result (Unit {0}) Fault) → verdict_told r ≡ verdict_told s
      → IfErr r (λ fault. fault ≢ Refused BadPair) → IfErr s (λ fault. fault ≢ Refused BadPair) → r ≡ s
  one_verdict (Ok u) (Ok v) p b c = refl
  one_verdict (Ok u) (Err (Refused f)) p b c = absurd (t.some f (sym (ap (λ (y : Verdict). y.refusal) p)))
  one_verdict (Ok u) (Err (PairAt n)) p b c = grind (arith, ap (λ (y : Verdict). y.refusal) p)
  one_verdict (Err (Refused e)) (Ok v) p b c = absurd (t.some e (ap (λ (y : Verdict). y.refusal) p))
  one_verdict (Err (Refused e)) (Err (Refused f)) p b c = ap (λ g. Err (Refused g)) (t.apart e f (ap (λ (y : Verdict). y.refusal) p))
  one_verdict (Err (Refused e)) (Err (PairAt n)) p b c = absurd (b (ap Refused (t.apart e BadPair (ap (λ (y : Verdict). y.refusal) p))))
  one_verdict (Err (PairAt n)) (Ok v) p b c = grind (arith, ap (λ (y : Verdict). y.refusal) p)
  one_verdict (Err (PairAt n)) (Err (Refused f)) p b c =
      absurd (c (ap Refused (t.apart f BadPair (sym (ap (λ (y : Verdict). y.refusal) p)))))
  one_verdict (Err (PairAt n)) (Err (PairAt m)) p b c = ap (λ k. Err (PairAt k)) (ap (λ (y : Verdict). y.place) p)

  pub settled_answers : SettledAnswers
  settled_answers = record {
    plan = λ request image writes. two planned_told planned _ _;
    decode = λ image request. two decoded_told decoded _ _;
    read = λ request r s p q. one_known _ _ r s p.0 p.1 p.2 q.0 q.1 q.2;
    ask = λ request. one ask_told asked _;
    walk = λ request. one places_told walked _;
    limits = λ video sound. one given_by given _;
    allowed = λ r. one given_by given _;
    within = λ k. one (within_told k.request) (within k.request) _;
    ncts = λ request. one pair_told pair _;
    pairs = λ r. one pair_told pair _;
    line = λ request. one_text _ _;
    answer = λ refusal request. one_text _ _;
    verdict = λ refusal place. one_text _ _;
    preview = λ matrix a b c. one pixel_told pixel _;
    meter = λ numbers buffer. two metered_told metered _ _;
    convert = λ m. one converted_told converted _;
    take = λ pipe part x y p q. two_said _ _ x y p.0 q.0;
    end = λ pipe x y p q. two_said _ _ x y p.0 q.0;
    overview = λ edid. one monitor_told monitor _;
    choose = λ edid request wishes. one choice_told choice _;
    clock = λ video. one clock_told clock _;
    pair = λ video rate coherent. one pair_told pair _;
    avi = λ video. one avi_told avi _;
    audio = λ channels. one audio_told audio _;
    write = λ s address value. one (wrote_told s) (wrote s) _;
    apply = λ s address value. applied _;
    enter = λ l address value. two given_by given _ _;
    vsync = λ l. two given_by given _ _;
    part = λ image packet which. one part_told part _;
    refusal = λ image packet which. one given_by given _;
    mute = λ image packet. one mute_told muted _;
    matrix = λ image coefficients mark out. two count_told counted _ _;
    vet = λ image packet coefficients mark list r s p q. one_verdict r s (p.0 ∙ sym q.0) p.1 q.1;
  }
