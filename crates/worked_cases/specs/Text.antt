-- Bytes written as text.
--
--   bytes t  ==  the codes of the characters of t
--   text l   ==  the bytes of the texts of l, one after another
use mathlib.Core.List.{List, [], ◌∷◌, map, flatten}
use Rattle.std.specs.Prelude.{ℕ}
use Prim.Native.Char.{code}
use Prim.Native.String.{String}
use Prim.Native.String as string

unfoldable pub bytes : String → List ℕ
bytes string.[] = []
bytes (string.◌∷◌ c s) = code c ∷ bytes s

unfoldable pub text : List String → List ℕ
text l = flatten (map bytes l)
