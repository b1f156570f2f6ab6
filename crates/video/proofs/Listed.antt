-- The mode of a VIC is its own row of the table, and none where it is not listed: then it offers no family. Assumes nothing.
use mathlib.Core.Path.{◌≡◌, refl, sym, ◌∙◌}
use mathlib.Core.Logic.{◌≢◌}
use mathlib.Core.Bool.{Bool, true, false, false≢true, cond, not, ◌&&◌, ◌||◌}
use mathlib.Core.List.{List, [], ◌∷◌, map}
use Prim.Native.Nat.{ℕ, zero, suc, ◌<◌}
use native.Mathlib.Nat.{not-suc-le-zero, le_of_suc-le-suc}
use lib.Dec.{eqb}
use lib.ListN.{length, get_or}
use borrow.Author.Tests.{eqb-true, eqb-false, eq-eqb, ne_eqb, not-true}
use Rattle.lists.specs.Among.{among}
use Rattle.lists.specs.Find.{every}
use Rattle.lists.proofs.Both.{both_left, both_right, neither_left, neither_right}
use Rattle.lists.proofs.Decides.{failing, Decides}
use Rattle.video.specs.declared.Mode.{Mode}
use Rattle.video.specs.Modes.{modes, listed, unlisted, row_of, mode_of, ModeTable}

-- the row offers a family
abbrev offers : Mode → Bool
offers m = not (eqb m.families 0)

unlisted_in : (vic : ℕ) (ms : List Mode) → every offers ms ≡ true → eqb (row_of vic ms).families 0 ≡ not (among vic (map (λ m. m.vic) ms))
unlisted_in vic [] t = refl
unlisted_in vic (m ∷ ms) t = go (unlisted_in vic ms (both_right (offers m) (every offers ms) t)) (eqb m.vic vic) refl
  where
    go : eqb (row_of vic ms).families 0 ≡ not (among vic (map (λ m. m.vic) ms)) → (b : Bool) → eqb m.vic vic ≡ b
        → eqb (cond b m (row_of vic ms)).families 0 ≡ not (among vic (m.vic ∷ map (λ m. m.vic) ms))
    go ih true e = rw (eq-eqb vic m.vic (sym (eqb-true m.vic vic e))) (not-true _ (both_left (offers m) (every offers ms) t))
    go ih false e =
        let n : vic ≢ m.vic = λ q. eqb-false m.vic vic e (sym q) in
        rw (ne_eqb vic m.vic n) ih

pub not_listed : (vic : ℕ) → Decides (eqb (mode_of vic).families 0) (among vic listed ≡ false)
unfolding mode_of
not_listed vic = rw (unlisted_in vic modes refl) (failing (among vic listed))

-- ---- the table, row by row

-- no VIC stands in two rows
abbrev distinct : List Mode → Bool
distinct [] = true
distinct (m ∷ ms) = not (among m.vic (map (λ m. m.vic) ms)) && distinct ms

there : (vic : ℕ) (ms : List Mode) (i : ℕ) → i < length ms → vic ≡ (get_or ms i unlisted).vic → among vic (map (λ m. m.vic) ms) ≡ true
there vic [] i h e = absurd (not-suc-le-zero h)
there vic (m ∷ ms) zero h e = rw (eq-eqb vic m.vic e)
there vic (m ∷ ms) (suc i) h e = rw (there vic ms i (le_of_suc-le-suc h) e) (or_true (eqb vic m.vic))
  where
    or_true : (b : Bool) → (b || true) ≡ true
    or_true true = refl
    or_true false = refl

own_row : (ms : List Mode) → distinct ms ≡ true → (i : ℕ) → i < length ms → row_of (get_or ms i unlisted).vic ms ≡ get_or ms i unlisted
own_row [] d i h = absurd (not-suc-le-zero h)
own_row (m ∷ ms) d zero h = rw (eq-eqb m.vic m.vic refl)
own_row (m ∷ ms) d (suc i) h =
    let n : not (among m.vic (map (λ m. m.vic) ms)) ≡ true = both_left _ (distinct ms) d in
    let x : m.vic ≢ (get_or ms i unlisted).vic = λ e. false≢true (sym (not-true _ n) ∙ there m.vic ms i (le_of_suc-le-suc h) e) in
    rw (ne_eqb m.vic (get_or ms i unlisted).vic x) (own_row ms (both_right (not (among m.vic (map (λ m. m.vic) ms))) _ d) i (le_of_suc-le-suc h))

no_row : (vic : ℕ) (ms : List Mode) → among vic (map (λ m. m.vic) ms) ≡ false → row_of vic ms ≡ unlisted
no_row vic [] f = refl
no_row vic (m ∷ ms) f =
    let a : eqb vic m.vic ≡ false = neither_left _ (among vic (map (λ m. m.vic) ms)) f in
    let n : m.vic ≢ vic = λ q. eqb-false vic m.vic a (sym q) in
    rw (ne_eqb m.vic vic n) (no_row vic ms (neither_right (eqb vic m.vic) _ f))

pub table : ModeTable
unfolding mode_of
table = record { row = own_row modes refl; none = λ vic. no_row vic modes }
