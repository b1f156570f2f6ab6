-- Document 01, "The write list": the steps, as the code has them. `Order.rows` ties them to the document's: their registers, their order
-- and what they raise.
use Rattle.std.specs.Prelude.{Bool, cond, List, [], ◌∷◌, ◌++◌, ℕ, ◌+◌, ◌-◌}
use Rattle.map.specs.Map as reg
pub use Rattle.writes.specs.Rows.{from, table14, others}

-- a step: the register that it writes, and the bits that it raises of those that steps decide and not the request (holds, mute)
pub record Step : Type 0 where
  pub register : ℕ
  pub raised : ℕ

infix 80 ◌raising◌
abbrev pub ◌raising◌ : ℕ → ℕ → Step
register raising raised = record { register = register; raised = raised }

-- a step for each register
abbrev pub each : List ℕ → List Step
each [] = []
each (a ∷ rest) = a raising 0 ∷ each rest

abbrev pub span : ℕ → ℕ → List Step
span first count = each (from first count)

-- "coefficient hold up, 0x18 to 0x2F with the hold kept up, hold down"
abbrev pub coefficient_steps : List Step
coefficient_steps =
    reg.coefficient_update raising reg.coefficient_update_mask ∷
    span reg.csc 2 ++ reg.coefficient_update raising reg.coefficient_update_mask ∷ span (reg.coefficient_update + 1) (reg.csc_count - 3) ++
    reg.coefficient_update raising 0 ∷ []

-- "AVI hold up, its registers, hold down; audio likewise"
abbrev pub avi_steps : List Step
avi_steps =
    reg.infoframe_update raising reg.avi_packet_update_mask ∷ span reg.avi_infoframe_version reg.avi_infoframe_count ++
    reg.infoframe_update raising 0 ∷ []

abbrev pub audio_steps : List Step
audio_steps =
    reg.infoframe_update raising reg.audio_infoframe_packet_update_mask ∷ span reg.audio_infoframe_version reg.audio_infoframe_count ++
    reg.infoframe_update raising 0 ∷ []

-- what lies between mute and open. "If the audio hold is up at the start, audio goes before AVI."
unfoldable pub middle : Bool → List Step
middle audio_first = each table14 ++ coefficient_steps ++ cond audio_first (audio_steps ++ avi_steps) (avi_steps ++ audio_steps) ++ each others

-- "Order: mute; ..; open"
abbrev pub steps : List Step → List Step
steps between = reg.av_mute raising reg.set_av_mute_mask ∷ between ++ reg.av_mute raising reg.clear_av_mute_mask ∷ []
