-- The main register map of source document 000 (section 5) as it is printed: a register's address, the bits [high:low] of its fields and
-- their defaults, each beside the constant of `Map` that stands for it. Those that document 01 names (0x1A[5], 0x4A[6], ..) are among them.
use Rattle.std.specs.Prelude.{List, [], ◌∷◌, map, ℕ, ◌+◌, ◌-◌, ◌*◌, ◌^◌}
use Rattle.map.specs.Map as reg

-- a number as it is printed, and the constant that stands for it
pub record Twin : Type 0 where
  pub number : ℕ
  pub constant : ℕ

-- a field's mask, its shift, and its default in its place
abbrev pub mask : ℕ → ℕ → ℕ → Twin
mask high low constant = record { number = 2 ^ (high + 1) - 2 ^ low; constant = constant }

abbrev pub shift : ℕ → ℕ → ℕ → Twin
shift high low constant = record { number = low; constant = constant }

abbrev pub default : ℕ → ℕ → ℕ → ℕ → Twin
default high low number constant = record { number = number * 2 ^ low; constant = constant }

-- the count of registers of a group
abbrev pub count : ℕ → ℕ → ℕ → Twin
count first last constant = record { number = last + 1 - first; constant = constant }

-- a register's address
abbrev pub register : ℕ → ℕ → Twin
register address constant = record { number = address; constant = constant }

abbrev pub rows : List Twin
rows =
    register 0x01 reg.n0 ∷ mask 3 0 reg.n0_mask ∷
    register 0x02 reg.n1 ∷ register 0x03 reg.n2 ∷
    register 0x07 reg.cts_manual0 ∷ mask 3 0 reg.cts_manual0_mask ∷
    register 0x08 reg.cts_manual1 ∷ register 0x09 reg.cts_manual2 ∷
    register 0x0A reg.audio_source ∷
    mask 7 7 reg.cts_select_mask ∷ shift 7 7 reg.cts_select_shift ∷
    mask 6 4 reg.audio_select_mask ∷ default 6 4 0b000 reg.audio_select_default ∷
    mask 3 2 reg.audio_mode_mask ∷ default 3 2 0b00 reg.audio_mode_default ∷
    register 0x0C reg.i2s_config ∷
    mask 5 5 reg.i2s3_enable_mask ∷
    mask 4 4 reg.i2s2_enable_mask ∷
    mask 3 3 reg.i2s1_enable_mask ∷
    mask 2 2 reg.i2s0_enable_mask ∷ shift 2 2 reg.i2s0_enable_shift ∷
    mask 1 0 reg.i2s_format_mask ∷ default 1 0 0b00 reg.i2s_format_default ∷
    register 0x15 reg.i2s_freq_id_cfg ∷
    mask 7 4 reg.i2s_sampling_frequency_mask ∷ shift 7 4 reg.i2s_sampling_frequency_shift ∷
    mask 3 0 reg.input_id_mask ∷
    register 0x16 reg.video_input_cfg1 ∷ mask 7 7 reg.output_format_mask ∷
    mask 5 4 reg.input_color_depth_mask ∷ shift 5 4 reg.input_color_depth_shift ∷
    mask 3 2 reg.input_style_mask ∷ shift 3 2 reg.input_style_shift ∷
    register 0x18 reg.csc ∷
    count 0x18 0x2F reg.csc_count ∷
    mask 7 7 reg.csc_enable_mask ∷ shift 7 7 reg.csc_enable_shift ∷
    mask 6 5 reg.csc_scaling_factor_mask ∷ shift 6 5 reg.csc_scaling_factor_shift ∷
    mask 4 0 reg.csc_high_mask ∷
    register 0x1A reg.coefficient_update ∷ mask 5 5 reg.coefficient_update_mask ∷
    register 0x30 reg.sync_generation ∷
    count 0x30 0x34 reg.sync_generation_count ∷
    register 0x3B reg.pixel_repetition ∷
    mask 6 5 reg.pr_mode_mask ∷ shift 6 5 reg.pr_mode_shift ∷
    mask 4 3 reg.pr_pll_manual_mask ∷ shift 4 3 reg.pr_pll_manual_shift ∷
    mask 2 1 reg.pr_value_manual_mask ∷ shift 2 1 reg.pr_value_manual_shift ∷
    register 0x3C reg.vic_manual ∷ mask 5 0 reg.vic_manual_mask ∷
    register 0x40 reg.packet_enable0 ∷ mask 7 7 reg.gc_packet_enable_mask ∷
    register 0x44 reg.packet_enable1 ∷
    mask 6 6 reg.n_cts_packet_enable_mask ∷
    mask 5 5 reg.audio_sample_packet_enable_mask ∷
    mask 4 4 reg.avi_infoframe_enable_mask ∷
    mask 3 3 reg.audio_infoframe_enable_mask ∷
    register 0x48 reg.video_input_cfg2 ∷
    mask 4 3 reg.video_input_justification_mask ∷ shift 4 3 reg.video_input_justification_shift ∷
    register 0x4A reg.infoframe_update ∷
    mask 7 7 reg.auto_checksum_enable_mask ∷
    mask 6 6 reg.avi_packet_update_mask ∷
    mask 5 5 reg.audio_infoframe_packet_update_mask ∷
    mask 4 4 reg.gc_packet_update_mask ∷
    register 0x4B reg.av_mute ∷
    mask 7 7 reg.clear_av_mute_mask ∷
    mask 6 6 reg.set_av_mute_mask ∷
    register 0x4C reg.gc_depth ∷ mask 3 0 reg.color_depth_mask ∷
    register 0x52 reg.avi_infoframe_version ∷
    count 0x52 0x61 reg.avi_infoframe_count ∷
    mask 2 0 reg.avi_infoframe_version_mask ∷
    register 0x53 reg.avi_infoframe_length ∷ mask 4 0 reg.avi_infoframe_length_mask ∷
    register 0x54 reg.avi_infoframe_checksum ∷
    register 0x55 reg.avi_infoframe_byte1 ∷
    register 0x70 reg.audio_infoframe_version ∷
    count 0x70 0x7C reg.audio_infoframe_count ∷
    mask 2 0 reg.audio_infoframe_version_mask ∷
    register 0x71 reg.audio_infoframe_length ∷ mask 4 0 reg.audio_infoframe_length_mask ∷
    register 0x72 reg.audio_infoframe_checksum ∷ register 0x73 reg.audio_infoframe_byte1 ∷
    register 0x98 reg.fixed98 ∷ register 0x9A reg.fixed9a ∷ register 0x9C reg.fixed9c ∷ register 0x9D reg.fixed9d ∷
    register 0xA2 reg.fixed_a2 ∷ register 0xA3 reg.fixed_a3 ∷
    register 0xAF reg.hdcp_hdmi_cfg ∷ mask 1 1 reg.hdmi_dvi_mode_select_mask ∷
    register 0xE0 reg.fixed_e0 ∷ register 0xF9 reg.fixed_i2c_address ∷ []

-- the numbers as printed, and the constants
abbrev pub printed : List ℕ
printed = map (λ (r : Twin). r.number) rows

abbrev pub twins : List ℕ
twins = map (λ (r : Twin). r.constant) rows
