-- The line of each verdict on a vendor's list, in plain words. Assumes nothing.
use mathlib.Core.Path.{refl}
use Prim.Native.Nat.{ℕ}
use borrow.Author.Tests.{ne_eqb}
use Rattle.line.specs.Words.{digits, refused_text}
use Rattle.line.specs.Verdict.{placed_text, Verdicts}

pub verdicts : (place : ℕ) → Verdicts place
unfolding digits refused_text placed_text
verdicts place =
    record {
      accepted = refl;
      image_length = refl;
      holds_up = refl;
      list_length = refl;
      bad_pair = refl;
      bad_end = refl;
      others = λ refusal n m. rw (ne_eqb refusal 0 n, ne_eqb refusal 15 m);
      first_pair = refl;
      last_pair = refl;
    }
