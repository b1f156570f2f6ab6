-- Texts added one after the other. `sets d at xs` of lib.Seq is d with xs stored from index at. Assumes nothing.
use mathlib.Core.Path.{◌≡◌, sym, ap, subst, ◌∙◌}
use mathlib.Core.List.{List, [], ◌++◌}
use Prim.Native.Nat.{ℕ}
use native.Mathlib.Omega.{arith}
use lib.ListN.{length, drop, replicate, length-append, length-replicate}
use Rattle.lists.proofs.Emit.{sets_append, sets_front}
use Rattle.line.specs.declared.buffer.Text.{Text}
use Rattle.line.specs.Numbered.{Printed, text_told}
use Rattle.line.specs.Words.{decimal, AddsText, line_bytes}

-- some bytes, and then others
pub then : {a b c : Text} (xs ys : List ℕ) → AddsText a xs b → AddsText b ys c → AddsText a (xs ++ ys) c
then {a} xs ys p q =
    record {
      count = q.count ∙ rw (p.count, length-append) (omega arith);
      stored = q.stored ∙ rw (p.stored, p.count) (sym (sets_append xs ys a.bytes a.count));
    }

-- what is added to no line
pub from_none : {a b : Text} (xs : List ℕ) → text_told a ≡ line_bytes [] → AddsText a xs b → text_told b ≡ line_bytes xs
from_none {a} {b} xs e s =
    let z : a.count ≡ 0 = ap (λ (p : Printed). p.count) e in
    let l : b.count ≡ length xs = omega (arith, s.count) in
    let f : b.bytes ≡ xs ++ drop (length xs) (replicate 80 0) =
    s.stored ∙ rw (z, ap (λ (p : Printed). p.bytes) e) (sets_front xs (replicate 80 0) (omega (arith, length-replicate {A = ℕ} 80 0))) in
    λ i. record { bytes = f i; count = l i }

-- a name, and a number that was made wider
pub widened : {a b : Text} {m n : ℕ} (name : List ℕ) → m ≡ n → AddsText a (name ++ decimal m) b → AddsText a (name ++ decimal n) b
widened {a} {b} name e s = subst (λ (k : ℕ). AddsText a (name ++ decimal k) b) e s
