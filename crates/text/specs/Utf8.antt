-- The code point that a list of bytes begins with, from the table of RFC 3629, section 4:
--
--     UTF8-1 = %x00-7F
--     UTF8-2 = %xC2-DF UTF8-tail
--     UTF8-3 = %xE0 %xA0-BF UTF8-tail / %xE1-EC 2( UTF8-tail ) / %xED %x80-9F UTF8-tail / %xEE-EF 2( UTF8-tail )
--     UTF8-4 = %xF0 %x90-BF 2( UTF8-tail ) / %xF1-F3 3( UTF8-tail ) / %xF4 %x80-8F 2( UTF8-tail )
--     UTF8-tail = %x80-BF
--
-- Its number is made of the bits that section 3 marks x: the low 5, 4 or 3 bits of the first byte, and the low 6 of each other.
use Rattle.std.specs.Prelude.{ℕ, ◌+◌, ◌*◌, ◌%◌, List, [], ◌∷◌, ◌&&◌, Option, Some, None}
use Rattle.ascii.specs.Pick.{pick}
use Rattle.ascii.specs.Class.{within}
use Rattle.text.specs.declared.utf8.Point.{Point}

-- the code point c, of n bytes
abbrev pub point : ℕ → ℕ → Option Point
point c n = Some (record { code = c; len = n })

-- what follows the first byte a, of a sequence of two, three and four bytes; low to high is the range of the second byte
unfoldable pub two : ℕ → List ℕ → Option Point
two a [] = None
two a (b ∷ l) = pick (within 0x80 0xbf b) (point (a % 32 * 64 + b % 64) 2) None

unfoldable pub three : ℕ → ℕ → ℕ → List ℕ → Option Point
three a low high [] = None
three a low high (b ∷ []) = None
three a low high (b ∷ c ∷ l) =
    pick (within low high b && within 0x80 0xbf c) (point (a % 16 * 4096 + b % 64 * 64 + c % 64) 3) None

unfoldable pub four : ℕ → ℕ → ℕ → List ℕ → Option Point
four a low high [] = None
four a low high (b ∷ []) = None
four a low high (b ∷ c ∷ []) = None
four a low high (b ∷ c ∷ d ∷ l) =
    pick (within low high b && within 0x80 0xbf c && within 0x80 0xbf d)
    (point (a % 8 * 262144 + b % 64 * 4096 + c % 64 * 64 + d % 64) 4) None

unfoldable pub step_of : List ℕ → Option Point
step_of [] = None
step_of (a ∷ l) =
    pick (within 0x00 0x7f a) (point a 1)
    (pick (within 0xc2 0xdf a) (two a l)
    (pick (within 0xe0 0xe0 a) (three a 0xa0 0xbf l)
    (pick (within 0xe1 0xec a) (three a 0x80 0xbf l)
    (pick (within 0xed 0xed a) (three a 0x80 0x9f l)
    (pick (within 0xee 0xef a) (three a 0x80 0xbf l)
    (pick (within 0xf0 0xf0 a) (four a 0x90 0xbf l)
    (pick (within 0xf1 0xf3 a) (four a 0x80 0xbf l)
    (pick (within 0xf4 0xf4 a) (four a 0x80 0x8f l)
    None))))))))
