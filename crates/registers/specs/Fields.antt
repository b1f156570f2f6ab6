-- Document 01, "Register classes": the fields that are named, in the order of its sentence "Named: N, CTS, ..". `registers::fields` says
-- that the class table names their bits, and `AllNamed` (promises) that the document's places cover these and no others. Document 02 adds
-- the depth that is sent (request 06) and the input's wiring (request 02).
use Rattle.std.specs.Prelude.{List, [], ◌∷◌, ◌++◌, ℕ, zero, suc, ◌+◌}
use Rattle.map.specs.Map.{n0, n0_mask, n1, n2, cts_manual0, cts_manual0_mask, cts_manual1, cts_manual2}
use Rattle.map.specs.Map.{audio_source, cts_select_mask, audio_select_mask, audio_mode_mask}
use Rattle.map.specs.Map.{i2s_config, i2s3_enable_mask, i2s2_enable_mask, i2s1_enable_mask, i2s0_enable_mask, i2s_format_mask}
use Rattle.map.specs.Map.{i2s_freq_id_cfg, i2s_sampling_frequency_mask, input_id_mask, video_input_cfg1, output_format_mask}
use Rattle.map.specs.Map.{input_color_depth_mask, input_style_mask, video_input_cfg2, video_input_justification_mask}
use Rattle.map.specs.Map.{sync_generation, sync_generation_count}
use Rattle.map.specs.Map.{csc, csc_enable_mask, csc_scaling_factor_mask, csc_high_mask, coefficient_update, coefficient_update_mask}
use Rattle.map.specs.Map.{pixel_repetition, pr_mode_mask, pr_pll_manual_mask, pr_value_manual_mask, vic_manual, vic_manual_mask}
use Rattle.map.specs.Map.{packet_enable0, gc_packet_enable_mask, packet_enable1, n_cts_packet_enable_mask, audio_sample_packet_enable_mask}
use Rattle.map.specs.Map.{avi_infoframe_enable_mask, audio_infoframe_enable_mask}
use Rattle.map.specs.Map.{infoframe_update, auto_checksum_enable_mask, avi_packet_update_mask, audio_infoframe_packet_update_mask}
use Rattle.map.specs.Map.{av_mute, clear_av_mute_mask, set_av_mute_mask, hdcp_hdmi_cfg, hdmi_dvi_mode_select_mask}
use Rattle.map.specs.Map.{avi_infoframe_version, avi_infoframe_version_mask, avi_infoframe_length, avi_infoframe_length_mask}
use Rattle.map.specs.Map.{avi_infoframe_checksum, avi_infoframe_byte1}
use Rattle.map.specs.Map.{audio_infoframe_version, audio_infoframe_version_mask, audio_infoframe_length, audio_infoframe_length_mask}
use Rattle.map.specs.Map.{audio_infoframe_checksum, audio_infoframe_byte1, gc_depth, color_depth_mask}
use Rattle.registers.specs.Field.{Field, field, whole, bytes, fields_at, masks}

-- count coefficients from register `first` on: the high five bits of each in one register, the low eight in the next
abbrev pub coefficient_fields : ℕ → ℕ → List Field
coefficient_fields first zero = []
coefficient_fields first (suc count) = field first csc_high_mask ∷ field (first + 1) whole ∷ coefficient_fields (first + 2) count

abbrev pub become_named : List Field
become_named =
    -- request 06: "The general control fields for depth become named"
    field gc_depth color_depth_mask ∷
    -- request 02: "Add input IDs 1 to 8 with depth, style and justification .., and for embedded syncs the sync generation fields 0x30 to 0x34"
    field video_input_cfg1 input_color_depth_mask ∷ field video_input_cfg1 input_style_mask ∷
    field video_input_cfg2 video_input_justification_mask ∷
    bytes sync_generation sync_generation_count

abbrev pub named_fields : List Field
named_fields =
    -- "N, CTS"
    field n0 n0_mask ∷ field n1 whole ∷ field n2 whole ∷
    field cts_manual0 cts_manual0_mask ∷ field cts_manual1 whole ∷ field cts_manual2 whole ∷
    -- "CTS select, audio select and mode"
    field audio_source cts_select_mask ∷ field audio_source audio_select_mask ∷ field audio_source audio_mode_mask ∷
    -- "I2S enables and format"
    field i2s_config i2s3_enable_mask ∷ field i2s_config i2s2_enable_mask ∷ field i2s_config i2s1_enable_mask ∷
    field i2s_config i2s0_enable_mask ∷ field i2s_config i2s_format_mask ∷
    -- "rate, input format, output format"
    field i2s_freq_id_cfg i2s_sampling_frequency_mask ∷ field i2s_freq_id_cfg input_id_mask ∷ field video_input_cfg1 output_format_mask ∷
    -- "CSC with its hold"
    field csc csc_enable_mask ∷ field csc csc_scaling_factor_mask ∷ field coefficient_update coefficient_update_mask ∷ [] ++
    coefficient_fields csc 12 ++
    -- "0x3B[6:5] = 2 with [4:1] = 0"; since request 06 [4:1] follows the repetition
    field pixel_repetition pr_mode_mask ∷ field pixel_repetition pr_pll_manual_mask ∷ field pixel_repetition pr_value_manual_mask ∷
    -- "VIC in 0x3C[5:0], the GC enable 0x40[7]"
    field vic_manual vic_manual_mask ∷ field packet_enable0 gc_packet_enable_mask ∷
    -- "the enables 0x44[6:3]"
    field packet_enable1 n_cts_packet_enable_mask ∷ field packet_enable1 audio_sample_packet_enable_mask ∷
    field packet_enable1 avi_infoframe_enable_mask ∷ field packet_enable1 audio_infoframe_enable_mask ∷
    -- "0x4A[7:5]"
    field infoframe_update auto_checksum_enable_mask ∷ field infoframe_update avi_packet_update_mask ∷
    field infoframe_update audio_infoframe_packet_update_mask ∷
    -- "AV mute, HDMI/DVI"
    field av_mute clear_av_mute_mask ∷ field av_mute set_av_mute_mask ∷ field hdcp_hdmi_cfg hdmi_dvi_mode_select_mask ∷
    -- "the AVI version, length, checksum and data bytes 1 to 13"
    field avi_infoframe_version avi_infoframe_version_mask ∷ field avi_infoframe_length avi_infoframe_length_mask ∷
    field avi_infoframe_checksum whole ∷ [] ++
    bytes avi_infoframe_byte1 13 ++
    -- "the audio InfoFrame": its data bytes 6 to 10 are marked reserved, so they are not named
    field audio_infoframe_version audio_infoframe_version_mask ∷ field audio_infoframe_length audio_infoframe_length_mask ∷
    field audio_infoframe_checksum whole ∷ [] ++
    bytes audio_infoframe_byte1 5 ++
    become_named

-- the bits of register a that lie in a field of the list, 0 where it has none
abbrev pub mask_in : List Field → ℕ → ℕ
mask_in fs a = masks (fields_at a fs)
