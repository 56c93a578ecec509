-- The font files of a caller (own).
use Rattle.std.specs.Prelude.{◌&&◌, ℕ, Bool, List, length, map, nat_le}
use Rattle.std.specs.List.{list_all}
use Rattle.tfm_core.specs.NamedBytes.{NamedBytes}
use Rattle.boxglue_calls.specs.declared.given.Font.{Font}

-- Whether these are the bytes of a font's name: 1 to 255 of them.
abbrev pub is_name : List ℕ → Bool
is_name name = nat_le 1 (length name) && nat_le (length name) 255

-- Whether each font has a name.
abbrev pub are_named : List Font → Bool
are_named fonts = list_all (λ font. is_name font.name.now) fonts

-- The file of a font.
abbrev pub file_of : Font → NamedBytes
file_of font = record { name = font.name.now; bytes = font.bytes.now }

-- The files of fonts.
abbrev pub files_of : List Font → List NamedBytes
files_of fonts = map file_of fonts
