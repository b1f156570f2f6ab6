-- A list laid over the front of another. Where both are of one length it is the first: `over-whole` (proofs) says so.
use Rattle.std.specs.Prelude.{List, [], ◌∷◌, ℕ}

-- what lies past the first list's end stays; what lies past the second's is left out
abbrev pub over : List ℕ → List ℕ → List ℕ
over [] out = out
over (b ∷ bytes) [] = []
over (b ∷ bytes) (o ∷ out) = b ∷ over bytes out
