-- A quoted text as its bytes. Assumes nothing.
use Rattle.std.specs.Prelude.{List, [] as none, ◌∷◌ as ◌and◌, ℕ}
use Prim.Native.Char.{code}
use Prim.Native.String.{String, [], ◌∷◌}

-- of ASCII characters, whose code is their byte
abbrev pub ascii : String → List ℕ
ascii [] = none
ascii (c ∷ text) = code c and ascii text
