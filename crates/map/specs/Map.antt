-- The main register map of source document 000 (section 5): addresses, masks, shifts and defaults. Each is the twin of a constant of `Map`.
-- That they are those of the printed addresses and bits [high:low] is the contract of
-- `map::constants`, over the rows of `Printed`. A field that fills its register has no mask.
use Rattle.std.specs.Prelude.{ℕ}

-- 0x01: N[19:16]
abbrev pub n0 : ℕ
n0 = 0x01

abbrev pub n0_mask : ℕ
n0_mask = 0x0F

-- 0x02: N[15:8]
abbrev pub n1 : ℕ
n1 = 0x02

-- 0x03: N[7:0]
abbrev pub n2 : ℕ
n2 = 0x03

-- 0x07: CTS Manual[19:16]
abbrev pub cts_manual0 : ℕ
cts_manual0 = 0x07

abbrev pub cts_manual0_mask : ℕ
cts_manual0_mask = 0x0F

-- 0x08: CTS Manual[15:8]
abbrev pub cts_manual1 : ℕ
cts_manual1 = 0x08

-- 0x09: CTS Manual[7:0]
abbrev pub cts_manual2 : ℕ
cts_manual2 = 0x09

-- 0x0A: CTS Select, Audio Select, Audio Mode
abbrev pub audio_source : ℕ
audio_source = 0x0A

abbrev pub cts_select_mask : ℕ
cts_select_mask = 0x80

abbrev pub cts_select_shift : ℕ
cts_select_shift = 7

abbrev pub audio_select_mask : ℕ
audio_select_mask = 0x70

abbrev pub audio_mode_mask : ℕ
audio_mode_mask = 0x0C

abbrev pub audio_select_default : ℕ
audio_select_default = 0x00

abbrev pub audio_mode_default : ℕ
audio_mode_default = 0x00

-- 0x0C: I2S3 Enable to I2S0 Enable, I2S Format
abbrev pub i2s_config : ℕ
i2s_config = 0x0C

abbrev pub i2s3_enable_mask : ℕ
i2s3_enable_mask = 0x20

abbrev pub i2s2_enable_mask : ℕ
i2s2_enable_mask = 0x10

abbrev pub i2s1_enable_mask : ℕ
i2s1_enable_mask = 0x08

abbrev pub i2s0_enable_mask : ℕ
i2s0_enable_mask = 0x04

abbrev pub i2s0_enable_shift : ℕ
i2s0_enable_shift = 2

abbrev pub i2s_format_mask : ℕ
i2s_format_mask = 0x03

abbrev pub i2s_format_default : ℕ
i2s_format_default = 0x00

-- 0x15: I2S Sampling Frequency, Input ID
abbrev pub i2s_freq_id_cfg : ℕ
i2s_freq_id_cfg = 0x15

abbrev pub i2s_sampling_frequency_mask : ℕ
i2s_sampling_frequency_mask = 0xF0

abbrev pub i2s_sampling_frequency_shift : ℕ
i2s_sampling_frequency_shift = 4

abbrev pub input_id_mask : ℕ
input_id_mask = 0x0F

-- 0x16: Output Format, Input Color Depth, Input Style
abbrev pub video_input_cfg1 : ℕ
video_input_cfg1 = 0x16

abbrev pub output_format_mask : ℕ
output_format_mask = 0x80

abbrev pub input_color_depth_mask : ℕ
input_color_depth_mask = 0x30

abbrev pub input_color_depth_shift : ℕ
input_color_depth_shift = 4

abbrev pub input_style_mask : ℕ
input_style_mask = 0x0C

abbrev pub input_style_shift : ℕ
input_style_shift = 2

-- 0x18: CSC Enable, CSC Scaling Factor, A1 to C4: the first of 24 registers, two for each coefficient, its high five bits first
abbrev pub csc : ℕ
csc = 0x18

abbrev pub csc_count : ℕ
csc_count = 24

abbrev pub csc_enable_mask : ℕ
csc_enable_mask = 0x80

abbrev pub csc_enable_shift : ℕ
csc_enable_shift = 7

abbrev pub csc_scaling_factor_mask : ℕ
csc_scaling_factor_mask = 0x60

abbrev pub csc_scaling_factor_shift : ℕ
csc_scaling_factor_shift = 5

abbrev pub csc_high_mask : ℕ
csc_high_mask = 0x1F

-- 0x1A: Coefficient Update
abbrev pub coefficient_update : ℕ
coefficient_update = 0x1A

abbrev pub coefficient_update_mask : ℕ
coefficient_update_mask = 0x20

-- 0x30: Hsync Placement, Hsync Duration, Vsync Placement, Vsync Duration of the embedded sync decoder: the first of five registers, ten
-- bits for each, one after the other
abbrev pub sync_generation : ℕ
sync_generation = 0x30

abbrev pub sync_generation_count : ℕ
sync_generation_count = 5

-- 0x3B: PR Mode, PR PLL Manual, PR Value Manual
abbrev pub pixel_repetition : ℕ
pixel_repetition = 0x3B

abbrev pub pr_mode_mask : ℕ
pr_mode_mask = 0x60

abbrev pub pr_mode_shift : ℕ
pr_mode_shift = 5

abbrev pub pr_pll_manual_mask : ℕ
pr_pll_manual_mask = 0x18

abbrev pub pr_pll_manual_shift : ℕ
pr_pll_manual_shift = 3

abbrev pub pr_value_manual_mask : ℕ
pr_value_manual_mask = 0x06

abbrev pub pr_value_manual_shift : ℕ
pr_value_manual_shift = 1

-- 0x3C: VIC Manual
abbrev pub vic_manual : ℕ
vic_manual = 0x3C

abbrev pub vic_manual_mask : ℕ
vic_manual_mask = 0x3F

-- 0x40: GC Packet Enable
abbrev pub packet_enable0 : ℕ
packet_enable0 = 0x40

abbrev pub gc_packet_enable_mask : ℕ
gc_packet_enable_mask = 0x80

-- 0x44: N CTS Packet Enable, Audio Sample Packet Enable, AVI InfoFrame Enable, Audio InfoFrame Enable
abbrev pub packet_enable1 : ℕ
packet_enable1 = 0x44

abbrev pub n_cts_packet_enable_mask : ℕ
n_cts_packet_enable_mask = 0x40

abbrev pub audio_sample_packet_enable_mask : ℕ
audio_sample_packet_enable_mask = 0x20

abbrev pub avi_infoframe_enable_mask : ℕ
avi_infoframe_enable_mask = 0x10

abbrev pub audio_infoframe_enable_mask : ℕ
audio_infoframe_enable_mask = 0x08

-- 0x48: Video Input Justification
abbrev pub video_input_cfg2 : ℕ
video_input_cfg2 = 0x48

abbrev pub video_input_justification_mask : ℕ
video_input_justification_mask = 0x18

abbrev pub video_input_justification_shift : ℕ
video_input_justification_shift = 3

-- 0x4A: Auto Checksum Enable, and the packet holds: AVI, Audio InfoFrame and GC Packet Update
abbrev pub infoframe_update : ℕ
infoframe_update = 0x4A

abbrev pub auto_checksum_enable_mask : ℕ
auto_checksum_enable_mask = 0x80

abbrev pub avi_packet_update_mask : ℕ
avi_packet_update_mask = 0x40

abbrev pub audio_infoframe_packet_update_mask : ℕ
audio_infoframe_packet_update_mask = 0x20

abbrev pub gc_packet_update_mask : ℕ
gc_packet_update_mask = 0x10

-- 0x4B: Clear AV Mute, Set AV Mute
abbrev pub av_mute : ℕ
av_mute = 0x4B

abbrev pub clear_av_mute_mask : ℕ
clear_av_mute_mask = 0x80

abbrev pub set_av_mute_mask : ℕ
set_av_mute_mask = 0x40

-- 0x4C: Color Depth, of the GC packet
abbrev pub gc_depth : ℕ
gc_depth = 0x4C

abbrev pub color_depth_mask : ℕ
color_depth_mask = 0x0F

-- 0x52: AVI InfoFrame Version: the first of 16 registers
abbrev pub avi_infoframe_version : ℕ
avi_infoframe_version = 0x52

abbrev pub avi_infoframe_count : ℕ
avi_infoframe_count = 16

abbrev pub avi_infoframe_version_mask : ℕ
avi_infoframe_version_mask = 0x07

-- 0x53: AVI InfoFrame Length
abbrev pub avi_infoframe_length : ℕ
avi_infoframe_length = 0x53

abbrev pub avi_infoframe_length_mask : ℕ
avi_infoframe_length_mask = 0x1F

-- 0x54: AVI InfoFrame Checksum
abbrev pub avi_infoframe_checksum : ℕ
avi_infoframe_checksum = 0x54

-- 0x55: AVI data byte 1
abbrev pub avi_infoframe_byte1 : ℕ
avi_infoframe_byte1 = 0x55

-- 0x70: Audio InfoFrame Version: the first of 13 registers
abbrev pub audio_infoframe_version : ℕ
audio_infoframe_version = 0x70

abbrev pub audio_infoframe_count : ℕ
audio_infoframe_count = 13

abbrev pub audio_infoframe_version_mask : ℕ
audio_infoframe_version_mask = 0x07

-- 0x71: Audio InfoFrame Length
abbrev pub audio_infoframe_length : ℕ
audio_infoframe_length = 0x71

abbrev pub audio_infoframe_length_mask : ℕ
audio_infoframe_length_mask = 0x1F

-- 0x72: Audio InfoFrame Checksum
abbrev pub audio_infoframe_checksum : ℕ
audio_infoframe_checksum = 0x72

-- 0x73: Audio data byte 1
abbrev pub audio_infoframe_byte1 : ℕ
audio_infoframe_byte1 = 0x73

-- 0x98: Table 14: Fixed
abbrev pub fixed98 : ℕ
fixed98 = 0x98

-- 0x9A: Table 14: Fixed
abbrev pub fixed9a : ℕ
fixed9a = 0x9A

-- 0x9C: Table 14: Fixed
abbrev pub fixed9c : ℕ
fixed9c = 0x9C

-- 0x9D: Table 14: Fixed
abbrev pub fixed9d : ℕ
fixed9d = 0x9D

-- 0xA2: Table 14: Fixed
abbrev pub fixed_a2 : ℕ
fixed_a2 = 0xA2

-- 0xA3: Table 14: Fixed
abbrev pub fixed_a3 : ℕ
fixed_a3 = 0xA3

-- 0xAF: HDMI/DVI Mode Select
abbrev pub hdcp_hdmi_cfg : ℕ
hdcp_hdmi_cfg = 0xAF

abbrev pub hdmi_dvi_mode_select_mask : ℕ
hdmi_dvi_mode_select_mask = 0x02

-- 0xE0: Table 14: Fixed
abbrev pub fixed_e0 : ℕ
fixed_e0 = 0xE0

-- 0xF9: Table 14: Fixed I2C Address
abbrev pub fixed_i2c_address : ℕ
fixed_i2c_address = 0xF9
