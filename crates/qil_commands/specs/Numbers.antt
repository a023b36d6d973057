-- The shapes of words: numbers, names and addresses.
use Rattle.std.specs.Prelude.{ℕ, ◌+◌, ◌*◌, ◌-◌, ◌%◌, ◌^◌, ◌==◌, ◌||◌, ◌&&◌, Bool, not, length, take, drop, List, [], ◌∷◌, fold, cond, if◌then◌else◌, codes, nat_lt, Option, Some, None, option_map}
use Rattle.std.specs.Str.{bytes_eq}
use Rattle.std.specs.List.{list_all, prefix_len}
use Rattle.std.specs.Char.{is_ascii_digit, is_ascii_alphabetic}
use Rattle.qil_tree.specs.declared.ops.Width.{Width}
use Rattle.qil_tree.specs.declared.ops.Width.TheVariants as widths
use Rattle.qil_commands.specs.declared.command.Address.{Address}
use Rattle.qil_commands.specs.declared.command.Address.TheVariants as addresses

-- ---- numbers

-- the number that decimal digits spell, leading zeros allowed
abbrev pub digits_value : List ℕ → ℕ
digits_value digits = fold (λ v d. v * 10 + (d - 48)) 0 digits

abbrev pub is_digits : List ℕ → Bool
is_digits word = not (length word == 0) && list_all is_ascii_digit word

-- a number in decimal digits of which this holds
abbrev pub number_where : (ℕ → Bool) → List ℕ → Option ℕ
number_where holds word = cond (is_digits word && holds (digits_value word)) (Some (digits_value word)) None

-- 0 to 2^64 - 1
abbrev pub number_of : List ℕ → Option ℕ
number_of word = number_where (λ n. nat_lt n (2 ^ 64)) word

-- a count: 1 to 4,294,967,295
abbrev pub count_of : List ℕ → Option ℕ
count_of word = number_where (λ n. nat_lt 0 n && nat_lt n (2 ^ 32)) word

-- how many bytes are shown: 1 to 256
abbrev pub byte_count_of : List ℕ → Option ℕ
byte_count_of word = number_where (λ n. nat_lt 0 n && nat_lt n 257) word

-- -2^63 to 2^64 - 1, as 64 bits in two's complement
abbrev pub value_of : List ℕ → Option ℕ
value_of [] = None
value_of (b ∷ digits) = cond (b == 45)
    (option_map (λ n. (2 ^ 64 - n) % 2 ^ 64) (number_where (λ n. nat_lt n (2 ^ 63 + 1)) digits))
    (number_of (b ∷ digits))

-- ---- names

-- a letter, a digit, '.', '_' or '$'
abbrev pub is_name_byte : ℕ → Bool
is_name_byte b = (((is_ascii_alphabetic b || is_ascii_digit b) || b == 46) || b == 95) || b == 36

abbrev pub is_name : List ℕ → Bool
is_name bytes = not (length bytes == 0) && list_all is_name_byte bytes

-- a sigil and a name, of which the name is kept
abbrev pub name_behind : ℕ → List ℕ → Option (List ℕ)
name_behind sigil [] = None
name_behind sigil (b ∷ name) = cond (b == sigil && is_name name) (Some name) None

-- '%', '$' or '@', and a name
abbrev pub temporary_of : List ℕ → Option (List ℕ)
temporary_of word = name_behind 37 word

abbrev pub global_of : List ℕ → Option (List ℕ)
global_of word = name_behind 36 word

abbrev pub label_of : List ℕ → Option (List ℕ)
label_of word = name_behind 64 word

-- ---- widths and addresses

-- the letters that represent 1, 2, 4 and 8 bytes
abbrev pub width_of : List ℕ → Option Width
width_of word =
    if bytes_eq word (codes "b") then Some widths.B else
    (if bytes_eq word (codes "h") then Some widths.H else
    (if bytes_eq word (codes "w") then Some widths.W else
    (if bytes_eq word (codes "l") then Some widths.L else None)))

abbrev pub is_no_plus : ℕ → Bool
is_no_plus b = not (b == 43)

-- what is added to the address of a global: nothing, or '+' and a number
abbrev pub offset_of : List ℕ → Option ℕ
offset_of [] = Some 0
offset_of (plus ∷ digits) = number_of digits

abbrev pub sum_of : Option (List ℕ) → Option ℕ → Option Address
sum_of None offset = None
sum_of (Some name) offset = option_map (addresses.Global name) offset

-- the address of a global, or so many bytes after it
abbrev pub global_address : List ℕ → Option Address
global_address word = sum_of (global_of (take (prefix_len is_no_plus word) word)) (offset_of (drop (prefix_len is_no_plus word) word))

-- a number, or a global with what is added
abbrev pub address_of : List ℕ → Option Address
address_of [] = None
address_of (b ∷ word) = cond (b == 36) (global_address (b ∷ word)) (option_map addresses.Number (number_of (b ∷ word)))
