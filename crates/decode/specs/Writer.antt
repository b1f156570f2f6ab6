-- What a writer of sections has room for, and what it has written: a count and a body, stored in its buffer from its place on. `Decodes` (Decode)
-- speaks of the whole request.
use Rattle.std.specs.Prelude.{◌≡◌, List, ◌∷◌, ℕ, suc, ◌+◌, ◌≤◌, length}
use Rattle.std.proofs.lemmas.List.Edits.{sets}
use Rattle.decode.specs.declared.Writer.{Writer}

-- room for a body of this many bytes, and its count
abbrev pub HasRoomFor : Writer → ℕ → Type 0
HasRoomFor writer count = writer.place + suc count ≤ length writer.buffer.now

pub record WroteSection (old : Writer) (body : List ℕ) (new : Writer) : Type 0 where
  pub same_buffer : new.buffer.ghost_name ≡ old.buffer.ghost_name
  pub same_room : length new.buffer.now ≡ length old.buffer.now
  pub place : new.place ≡ old.place + suc (length body)
  pub stored : new.buffer.now ≡ sets old.buffer.now old.place (length body ∷ body)
