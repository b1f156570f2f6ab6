-- The first entry of a table that passes a test, a test that every entry passes, and one that some entry does.
use Rattle.std.specs.Prelude.{Bool, true, false, cond, ◌&&◌, ◌||◌, List, [], ◌∷◌}

module _ {A : Type 0} where
  -- d where none passes
  abbrev pub find : (A → Bool) → A → List A → A
  find test d [] = d
  find test d (x ∷ xs) = cond (test x) x (find test d xs)

  abbrev pub every : (A → Bool) → List A → Bool
  every test [] = true
  every test (x ∷ xs) = test x && every test xs

  abbrev pub some : (A → Bool) → List A → Bool
  some test [] = false
  some test (x ∷ xs) = test x || some test xs
