-- The commands that lines for variables spell.
use Rattle.std.proofs.Common.{◌≡◌, refl, sym, ap, subst, ◌∙◌, ℕ, zero, suc, ◌+◌, ◌<◌, ◌≤◌, ◌^◌, List, [], ◌∷◌, ◌++◌, length, take, drop, Option, Some, None, Bool, true, false, Result, Ok, Err, inl, inr, arith}
use Rattle.std.specs.Prelude.{◌⊎◌, codes, option_map, ◌-◌, ◌%◌, decimal, cond, not, nat_lt, ◌==◌, ◌||◌, ◌&&◌}
use Rattle.std.specs.List.{list_all, list_any, prefix_len}
use Rattle.std.specs.Char.{is_ascii_digit, is_ascii_alphabetic}
use Rattle.std.proofs.lemmas.Bool.{cases_Bool, false≢true, or_parts}
use Rattle.std.proofs.lemmas.List.{append-nil}
use Rattle.std.proofs.lemmas.Bool.Decides.{nat_tests}
use Rattle.qil_streams.specs.Reader.{IsLine}
use Rattle.qil_tree.specs.declared.ops.Width.{Width}
use Rattle.qil_commands.specs.Words.{is_spacing, is_word_byte, goes_on, onto_first, words_of}
use Rattle.qil_commands.specs.Numbers.{address_of, digits_value, global_of, is_no_plus, offset_of, sum_of, is_digits, is_name, is_name_byte, number_of, number_where, temporary_of, value_of, width_of}
use Rattle.qil_commands.specs.Command.{alone, command_of, needed, said, shaped, spelled, ◌>>=◌}
use Rattle.qil_commands.specs.declared.command.Address.{Address}
use Rattle.qil_commands.specs.declared.command.Address.TheVariants as addresses
use Rattle.qil_commands.specs.declared.command.Command.{Command}
use Rattle.qil_commands.specs.declared.command.Command.TheVariants as commands
use Rattle.qil_commands.specs.declared.command.Refused.{Refused}
use Rattle.qil_commands.specs.declared.command.Refused.TheVariants.{LineTooLong, MissingWord, BadWord, ExtraWord}
use Rattle.qil_commands.specs.declared.command.Verb.TheVariants as verbs
use Rattle.qil_commands.proofs.WordLemmas.{words_of-prefix}
use Rattle.qrev_inspection.specs.Setting.{poke_at_line, poke_line, set_line, without}

-- ---- words

goes_apart : (a b : List ℕ) → goes_on (a ++ 32 ∷ b) ≡ goes_on a
goes_apart [] b = refl
goes_apart (x ∷ a) b = refl

word_behind : (x : ℕ) (line : List ℕ) → is_spacing x ≡ true → words_of (x ∷ line) ≡ words_of line
word_behind x line t = rw t refl

joined : (x : ℕ) (line : List ℕ) → is_spacing x ≡ false → goes_on line ≡ true → words_of (x ∷ line) ≡ onto_first x (words_of line)
joined x line h g = rw (h, g) refl

ended : (x : ℕ) (line : List ℕ) → is_spacing x ≡ false → goes_on line ≡ false → words_of (x ∷ line) ≡ (x ∷ []) ∷ words_of line
ended x line h g = rw (h, g) refl

onto_some : (x : ℕ) (ws vs : List (List ℕ)) → (ws ≡ [] → ⊥) → onto_first x (ws ++ vs) ≡ onto_first x ws ++ vs
onto_some x [] vs some = absurd (some refl)
onto_some x (w ∷ ws) vs some = refl

has_word : (a : List ℕ) → goes_on a ≡ true → words_of a ≡ [] → ⊥
has_word [] g e = false≢true g
has_word (x ∷ a) g e = elim (cases_Bool (is_spacing x)) [
  | inl t ↦ false≢true (sym (ap not t) ∙ g)
  | inr f ↦ (let some = words_of-prefix x a f in cc)
]

-- what a space separates
words_apart : (a b : List ℕ) → words_of (a ++ 32 ∷ b) ≡ words_of a ++ words_of b
words_apart [] b = refl
words_apart (x ∷ a) b = elim (cases_Bool (is_spacing x)) [
  | inl t ↦ word_behind x (a ++ 32 ∷ b) t ∙ (words_apart a b ∙ ap (λ (ws : List (List ℕ)). ws ++ words_of b) (sym (word_behind x a t)))
  | inr f ↦ elim (cases_Bool (goes_on a)) [
    | inl g ↦
        joined x (a ++ 32 ∷ b) f (goes_apart a b ∙ g)
        ∙ (ap (onto_first x) (words_apart a b)
        ∙ (onto_some x (words_of a) (words_of b) (has_word a g)
        ∙ ap (λ (ws : List (List ℕ)). ws ++ words_of b) (sym (joined x a f g))))
    | inr g ↦
        ended x (a ++ 32 ∷ b) f (goes_apart a b ∙ g)
        ∙ (ap (λ (ws : List (List ℕ)). (x ∷ []) ∷ ws) (words_apart a b)
        ∙ ap (λ (ws : List (List ℕ)). ws ++ words_of b) (sym (ended x a f g)))
  ]
]

byte_of_word : (x : ℕ) → is_word_byte x ≡ true → is_spacing x ≡ false
byte_of_word x w = elim (cases_Bool (is_spacing x)) [
  | inl t ↦ absurd (false≢true (sym (ap not t) ∙ w))
  | inr f ↦ f
]

and_first : (a b : Bool) → (a && b) ≡ true → a ≡ true
and_first true b e = refl
and_first false b e = absurd (false≢true e)

and_second : (a b : Bool) → (a && b) ≡ true → b ≡ true
and_second true b e = e
and_second false b e = absurd (false≢true e)

-- bytes without spacing are one word
one_word : (x : ℕ) (w : List ℕ) → list_all is_word_byte (x ∷ w) ≡ true → words_of (x ∷ w) ≡ (x ∷ w) ∷ []
one_word x [] all = ended x [] (byte_of_word x (and_first (is_word_byte x) (list_all is_word_byte []) all)) refl
one_word x (y ∷ w) all =
    let first : is_word_byte x ≡ true = and_first (is_word_byte x) (list_all is_word_byte (y ∷ w)) all in
    let rest : list_all is_word_byte (y ∷ w) ≡ true = and_second (is_word_byte x) (list_all is_word_byte (y ∷ w)) all in
    joined x (y ∷ w) (byte_of_word x first) (and_first (is_word_byte y) (list_all is_word_byte w) rest) ∙ ap (onto_first x) (one_word y w rest)

all_of : (P Q : ℕ → Bool) → ((x : ℕ) → P x ≡ true → Q x ≡ true) → (xs : List ℕ) → list_all P xs ≡ true → list_all Q xs ≡ true
all_of P Q weaker [] all = refl
all_of P Q weaker (x ∷ xs) all =
    let first : Q x ≡ true = weaker x (and_first (P x) (list_all P xs) all) in
    let rest : list_all Q xs ≡ true = all_of P Q weaker xs (and_second (P x) (list_all P xs) all) in
    rw first rest

-- ---- names and numbers are words

is_apart : (x : ℕ) → is_spacing x ≡ true → is_name_byte x ≡ true → ⊥
is_apart x s n = grind (arith, nat_tests, s, n)

name_word : (x : ℕ) → is_name_byte x ≡ true → is_word_byte x ≡ true
name_word x n = elim (cases_Bool (is_spacing x)) [
  | inl t ↦ absurd (is_apart x t n)
  | inr f ↦ ap not f
]

digit_apart : (x : ℕ) → is_spacing x ≡ true → is_ascii_digit x ≡ true → ⊥
digit_apart x s d = grind (arith, nat_tests, s, d)

digit_word : (x : ℕ) → is_ascii_digit x ≡ true → is_word_byte x ≡ true
digit_word x d = elim (cases_Bool (is_spacing x)) [
  | inl t ↦ absurd (digit_apart x t d)
  | inr f ↦ ap not f
]

where_digits : (holds : ℕ → Bool) (word : List ℕ) (n : ℕ) → number_where holds word ≡ Some n → list_all is_ascii_digit word ≡ true
where_digits holds word n e = elim (cases_Bool (is_digits word && holds (digits_value word))) [
  | inl t ↦ and_second (not (length word == 0)) (list_all is_ascii_digit word) (and_first (is_digits word) (holds (digits_value word)) t)
  | inr f ↦ (let none = rw f at e in absurd cc)
]

mapped : {X Y : Type 0} (h : X → Y) (o : Option X) (y : Y) → option_map h o ≡ Some y → (x : X) × (o ≡ Some x)
mapped h None y e = absurd cc
mapped h (Some x) y e = (x, refl)

sign_word : (x : ℕ) → (x == 45) ≡ true → is_word_byte x ≡ true
sign_word x t = let is : x ≡ 45 = grind (arith, nat_tests, t) in subst (λ (b : ℕ). is_word_byte b ≡ true) (sym is) refl

signed_word : (b : ℕ) (digits : List ℕ) (n : ℕ) → (b == 45) ≡ true → option_map (λ n. (2 ^ 64 - n) % 2 ^ 64) (number_where (λ n. nat_lt n (2 ^ 63 + 1)) digits) ≡ Some n → list_all is_word_byte (b ∷ digits) ≡ true
signed_word b digits n t e =
    let found = mapped (λ n. (2 ^ 64 - n) % 2 ^ 64) (number_where (λ n. nat_lt n (2 ^ 63 + 1)) digits) n e in
    let first : is_word_byte b ≡ true = sign_word b t in
    let rest : list_all is_word_byte digits ≡ true = all_of is_ascii_digit is_word_byte digit_word digits (where_digits (λ n. nat_lt n (2 ^ 63 + 1)) digits found.0 found.1) in
    rw first rest

-- a number as the session takes it is one word
value_word : (value : List ℕ) (n : ℕ) → value_of value ≡ Some n → words_of value ≡ value ∷ []
value_word [] n e = absurd cc
value_word (b ∷ digits) n e = elim (cases_Bool (b == 45)) [
  | inl t ↦ one_word b digits (signed_word b digits n t (rw t at e))
  | inr f ↦ one_word b digits (all_of is_ascii_digit is_word_byte digit_word (b ∷ digits) (where_digits (λ n. nat_lt n (2 ^ 64)) (b ∷ digits) n (rw f at e)))
]

-- ---- `set %NAME VALUE`

-- what is said is refused, or sets what a name and a value say
abbrev pub SetSays : List ℕ → List ℕ → Result (Option Command) Refused → Type 0
SetSays name value said = ((refused : Refused) × (said ≡ Err refused))
    ⊎ ((x : List ℕ) × (v : ℕ) × (said ≡ Ok (Some (commands.Set x v))) × (is_name name ≡ true → x ≡ name) × ((n : ℕ) → value_of value ≡ Some n → v ≡ n))

-- where a line is too long nothing is set
short_enough : (name value : List ℕ) (long : Bool) (r : Result (Option Command) Refused) → SetSays name value r → SetSays name value (cond long (Err LineTooLong) r)
short_enough name value true r says = inl (LineTooLong, refl)
short_enough name value false r says = says

-- a word by itself is the first one
only_first : (a w u : List ℕ) (vs : List (List ℕ)) → (a ∷ []) ++ vs ≡ w ∷ u ∷ [] → a ≡ w
only_first a w u vs e = cc

none_left : (ws : List (List ℕ)) (a : List ℕ) → ws ++ a ∷ [] ≡ [] → ⊥
none_left [] a e = cc
none_left (w ∷ ws) a e = cc

last_one : (ws : List (List ℕ)) (a u : List ℕ) → ws ++ a ∷ [] ≡ u ∷ [] → a ≡ u
last_one [] a u e = cc
last_one (w ∷ ws) a u e = absurd (let rest : ws ++ a ∷ [] ≡ [] = cc in none_left ws a rest)

-- and one behind all others the last
only_last : (ws : List (List ℕ)) (a w u : List ℕ) → ws ++ a ∷ [] ≡ w ∷ u ∷ [] → a ≡ u
only_last [] a w u e = absurd cc
only_last (x ∷ ws) a w u e = let rest : ws ++ a ∷ [] ≡ u ∷ [] = cc in last_one ws a u rest

sigil_word : (name : List ℕ) → is_name name ≡ true → words_of (37 ∷ name) ≡ (37 ∷ name) ∷ []
sigil_word name is = one_word 37 name (all_of is_name_byte is_word_byte name_word name (and_second (not (length name == 0)) (list_all is_name_byte name) is))

named_so : (name value w u : List ℕ) (x : List ℕ) → words_of (37 ∷ name) ++ words_of value ≡ w ∷ u ∷ [] → temporary_of w ≡ Some x → is_name name ≡ true → x ≡ name
named_so name value w u x e t is =
    let one : 37 ∷ name ≡ w = only_first (37 ∷ name) w u (words_of value) (rw (sigil_word name is) at e) in
    let says : temporary_of (37 ∷ name) ≡ Some x = subst (λ (word : List ℕ). temporary_of word ≡ Some x) (sym one) t in
    let named : temporary_of (37 ∷ name) ≡ Some name = rw is refl in
    cc

valued_so : (name value w u : List ℕ) (v n : ℕ) → words_of (37 ∷ name) ++ words_of value ≡ w ∷ u ∷ [] → value_of u ≡ Some v → value_of value ≡ Some n → v ≡ n
valued_so name value w u v n e t is =
    let one : value ≡ u = only_last (words_of (37 ∷ name)) value w u (rw (value_word value n is) at e) in
    let says : value_of value ≡ Some v = subst (λ (word : List ℕ). value_of word ≡ Some v) (sym one) t in
    cc

set_value : (name value w u : List ℕ) (us : List (List ℕ)) (x : List ℕ) (v : Option ℕ) → words_of (37 ∷ name) ++ words_of value ≡ w ∷ u ∷ us → temporary_of w ≡ Some x → value_of u ≡ v
    → SetSays name value ((shaped v us >>= λ v. alone (commands.Set x v.0) v.1) >>= λ command. Ok (Some command))
set_value name value w u us x None e named valued = inl (BadWord, refl)
set_value name value w u [] x (Some v) e named valued = inr (x, v, refl, named_so name value w u x e named, λ n. valued_so name value w u v n e valued)
set_value name value w u (more ∷ us) x (Some v) e named valued = inl (ExtraWord, refl)

set_temp : (name value w : List ℕ) (rest : List (List ℕ)) (x : Option (List ℕ)) → words_of (37 ∷ name) ++ words_of value ≡ w ∷ rest → temporary_of w ≡ x
    → SetSays name value ((shaped x rest >>= λ x. needed value_of x.1 >>= λ v. alone (commands.Set x.0 v.0) v.1) >>= λ command. Ok (Some command))
set_temp name value w rest None e named = inl (BadWord, refl)
set_temp name value w [] (Some x) e named = inl (MissingWord, refl)
set_temp name value w (u ∷ us) (Some x) e named = set_value name value w u us x (value_of u) e named refl

set_words : (name value : List ℕ) (words : List (List ℕ)) → words_of (37 ∷ name) ++ words_of value ≡ words → SetSays name value (said (codes "set" ∷ words))
set_words name value [] e = inl (MissingWord, refl)
set_words name value (w ∷ rest) e = set_temp name value w rest (temporary_of w) e refl

-- the line sets a temporary if it does anything: the one that it names to the number that it says
pub set_says : (name value : List ℕ) → SetSays name value (command_of (set_line name value))
set_says name value =
    let bare : value ++ [] ≡ value = append-nil value in
    let apart : words_of (37 ∷ (name ++ 32 ∷ value)) ≡ words_of (37 ∷ name) ++ words_of value = words_apart (37 ∷ name) value in
    let long = nat_lt 256 (length (set_line name value)) in
    let here : SetSays name value (said (codes "set" ∷ words_of (37 ∷ (name ++ 32 ∷ value)))) = rw apart (set_words name value (words_of (37 ∷ name) ++ words_of value) refl) in
    short_enough name value long (said (words_of (set_line name value))) (subst (λ (rest : List ℕ). SetSays name value (said (words_of (codes "set %" ++ (name ++ 32 ∷ rest))))) (sym bare) here)

set_value_said : (name value : List ℕ) (n : ℕ) → value_of value ≡ Some n → ((needed value_of (value ∷ []) >>= λ v. alone (commands.Set name v.0) v.1) >>= λ command. Ok (Some command)) ≡ Ok (Some (commands.Set name n))
set_value_said name value n says = ap (λ (v : Option ℕ). (shaped v [] >>= λ v. alone (commands.Set name v.0) v.1) >>= λ command. Ok (Some command)) says

set_said : (name value : List ℕ) (n : ℕ) → temporary_of (37 ∷ name) ≡ Some name → value_of value ≡ Some n → said (codes "set" ∷ (37 ∷ name) ∷ value ∷ []) ≡ Ok (Some (commands.Set name n))
set_said name value n named says =
    ap (λ (x : Option (List ℕ)). (shaped x (value ∷ []) >>= λ x. (needed value_of x.1 >>= λ v. alone (commands.Set x.0 v.0) v.1)) >>= λ command. Ok (Some command)) named ∙ set_value_said name value n says

-- a name and a number are set, if a line holds them
pub set_spelled : (name value : List ℕ) (n : ℕ) → is_name name ≡ true → value_of value ≡ Some n → length (set_line name value) ≤ 256 → command_of (set_line name value) ≡ Ok (Some (commands.Set name n))
set_spelled name value n is says few =
    let bare : value ++ [] ≡ value = append-nil value in
    let apart : words_of (37 ∷ (name ++ 32 ∷ value)) ≡ words_of (37 ∷ name) ++ words_of value = words_apart (37 ∷ name) value in
    let first : words_of (37 ∷ name) ≡ (37 ∷ name) ∷ [] = sigil_word name is in
    let last : words_of value ≡ value ∷ [] = value_word value n says in
    let all : words_of (37 ∷ (name ++ 32 ∷ value)) ≡ (37 ∷ name) ∷ value ∷ [] = apart ∙ rw (first, last) refl in
    let named : temporary_of (37 ∷ name) ≡ Some name = rw is refl in
    let short : nat_lt 256 (length (set_line name value)) ≡ false = grind (arith, nat_tests, few) in
    let words : words_of (set_line name value) ≡ codes "set" ∷ (37 ∷ name) ∷ value ∷ [] =
    ap (λ (rest : List ℕ). words_of (codes "set %" ++ (name ++ 32 ∷ rest))) bare ∙ ap (λ (ws : List (List ℕ)). codes "set" ∷ ws) all in
    ap (λ (long : Bool). cond long (Err LineTooLong) (said (words_of (set_line name value)))) short ∙ (ap said words ∙ set_said name value n named says)

-- ---- lines have no newline

ten_is : (P : ℕ → Bool) (x : ℕ) → P 10 ≡ false → P x ≡ true → (x == 10) ≡ false
ten_is P x none t = elim (cases_Bool (x == 10)) [
  | inl e ↦ absurd (let is : x ≡ 10 = grind (arith, nat_tests, e) in false≢true (sym none ∙ (ap P (sym is) ∙ t)))
  | inr f ↦ f
]

no_ten : (P : ℕ → Bool) (xs : List ℕ) → P 10 ≡ false → list_all P xs ≡ true → list_any (λ b. b == 10) xs ≡ false
no_ten P [] none all = refl
no_ten P (x ∷ xs) none all =
    let first : (x == 10) ≡ false = ten_is P x none (and_first (P x) (list_all P xs) all) in
    let rest : list_any (λ b. b == 10) xs ≡ false = no_ten P xs none (and_second (P x) (list_all P xs) all) in
    rw first rest

ten_apart : (xs ys : List ℕ) → list_any (λ b. b == 10) xs ≡ false → list_any (λ b. b == 10) ys ≡ false → list_any (λ b. b == 10) (xs ++ ys) ≡ false
ten_apart [] ys first last = last
ten_apart (x ∷ xs) ys first last =
    let parts = or_parts (x == 10) (list_any (λ b. b == 10) xs) first in
    rw parts.0 (ten_apart xs ys parts.1 last)

name_bytes : (name : List ℕ) → is_name name ≡ true → list_any (λ b. b == 10) name ≡ false
name_bytes name is = no_ten is_name_byte name refl (and_second (not (length name == 0)) (list_all is_name_byte name) is)

signed_bytes : (b : ℕ) (digits : List ℕ) (n : ℕ) → (b == 45) ≡ true → option_map (λ n. (2 ^ 64 - n) % 2 ^ 64) (number_where (λ n. nat_lt n (2 ^ 63 + 1)) digits) ≡ Some n → list_any (λ b. b == 10) (b ∷ digits) ≡ false
signed_bytes b digits n t e =
    let found = mapped (λ n. (2 ^ 64 - n) % 2 ^ 64) (number_where (λ n. nat_lt n (2 ^ 63 + 1)) digits) n e in
    let first : (b == 10) ≡ false = ten_is (λ x. x == 45) b refl t in
    rw first (no_ten is_ascii_digit digits refl (where_digits (λ n. nat_lt n (2 ^ 63 + 1)) digits found.0 found.1))

pub value_bytes : (value : List ℕ) (n : ℕ) → value_of value ≡ Some n → list_any (λ b. b == 10) value ≡ false
value_bytes [] n e = refl
value_bytes (b ∷ digits) n e = elim (cases_Bool (b == 45)) [
  | inl t ↦ signed_bytes b digits n t (rw t at e)
  | inr f ↦ no_ten is_ascii_digit (b ∷ digits) refl (where_digits (λ n. nat_lt n (2 ^ 64)) (b ∷ digits) n (rw f at e))
]

pub sigil_bytes : (name : List ℕ) → is_name (without 37 name) ≡ true → list_any (λ b. b == 10) name ≡ false
sigil_bytes [] is = refl
sigil_bytes (b ∷ name) is = elim (cases_Bool (b == 37)) [
  | inl t ↦ (let first : (b == 10) ≡ false = ten_is (λ x. x == 37) b refl t in rw first (name_bytes name (rw t at is)))
  | inr f ↦ name_bytes (b ∷ name) (rw f at is)
]

a_line : (xs : List ℕ) → list_any (λ b. b == 10) xs ≡ false → IsLine xs
a_line [] none = tt
a_line (x ∷ xs) none =
    let parts = or_parts (x == 10) (list_any (λ b. b == 10) xs) none in
    (λ e. false≢true (sym parts.0 ∙ ap (λ n. n == 10) e), a_line xs parts.1)

pub set_is_line : (name value : List ℕ) (n : ℕ) → is_name name ≡ true → value_of value ≡ Some n → IsLine (set_line name value)
set_is_line name value n is says =
    a_line (set_line name value) (ten_apart (codes "set %") (name ++ 32 ∷ (value ++ [])) refl (ten_apart name (32 ∷ (value ++ [])) (name_bytes name is) (ten_apart value [] (value_bytes value n says) refl)))

-- ---- `poke LETTER PLACE VALUE`

-- what is said is refused, or pokes what the word of a place and a value say
abbrev pub PokeSays : List ℕ → List ℕ → Result (Option Command) Refused → Type 0
PokeSays place value said = ((refused : Refused) × (said ≡ Err refused))
    ⊎ ((w : Width) × (at : Address) × (v : ℕ) × (said ≡ Ok (Some (commands.Poke w at v)))
    × ((a : Address) → words_of place ≡ place ∷ [] → address_of place ≡ Some a → at ≡ a) × ((n : ℕ) → value_of value ≡ Some n → v ≡ n))

short_poke : (place value : List ℕ) (long : Bool) (r : Result (Option Command) Refused) → PokeSays place value r → PokeSays place value (cond long (Err LineTooLong) r)
short_poke place value true r says = inl (LineTooLong, refl)
short_poke place value false r says = says

placed_so : (place value u q : List ℕ) (at a : Address) → words_of place ++ words_of value ≡ u ∷ q ∷ [] → address_of u ≡ Some at → words_of place ≡ place ∷ [] → address_of place ≡ Some a → at ≡ a
placed_so place value u q at a e t one is =
    let same : place ≡ u = only_first place u q (words_of value) (rw one at e) in
    let says : address_of place ≡ Some at = subst (λ (word : List ℕ). address_of word ≡ Some at) (sym same) t in
    cc

poked_so : (place value u q : List ℕ) (v n : ℕ) → words_of place ++ words_of value ≡ u ∷ q ∷ [] → value_of q ≡ Some v → value_of value ≡ Some n → v ≡ n
poked_so place value u q v n e t is =
    let one : value ≡ q = only_last (words_of place) value u q (rw (value_word value n is) at e) in
    let says : value_of value ≡ Some v = subst (λ (word : List ℕ). value_of word ≡ Some v) (sym one) t in
    cc

poke_value : (place value u q : List ℕ) (qs : List (List ℕ)) (w : Width) (at : Address) (v : Option ℕ) → words_of place ++ words_of value ≡ u ∷ q ∷ qs → address_of u ≡ Some at → value_of q ≡ v
    → PokeSays place value ((shaped v qs >>= λ v. alone (commands.Poke w at v.0) v.1) >>= λ command. Ok (Some command))
poke_value place value u q qs w at None e placed valued = inl (BadWord, refl)
poke_value place value u q [] w at (Some v) e placed valued = inr (w, at, v, refl, (λ a. placed_so place value u q at a e placed), λ n. poked_so place value u q v n e valued)
poke_value place value u q (more ∷ qs) w at (Some v) e placed valued = inl (ExtraWord, refl)

poke_place : (place value u : List ℕ) (us : List (List ℕ)) (w : Width) (at : Option Address) → words_of place ++ words_of value ≡ u ∷ us → address_of u ≡ at
    → PokeSays place value ((shaped at us >>= λ a. (needed value_of a.1 >>= λ v. alone (commands.Poke w a.0 v.0) v.1)) >>= λ command. Ok (Some command))
poke_place place value u us w None e placed = inl (BadWord, refl)
poke_place place value u [] w (Some at) e placed = inl (MissingWord, refl)
poke_place place value u (q ∷ qs) w (Some at) e placed = poke_value place value u q qs w at (value_of q) e placed refl

poke_width : (place value : List ℕ) (words : List (List ℕ)) (w : Option Width) → words_of place ++ words_of value ≡ words
    → PokeSays place value ((shaped w words >>= λ w. (needed address_of w.1 >>= λ a. (needed value_of a.1 >>= λ v. alone (commands.Poke w.0 a.0 v.0) v.1))) >>= λ command. Ok (Some command))
poke_width place value words None e = inl (BadWord, refl)
poke_width place value [] (Some w) e = inl (MissingWord, refl)
poke_width place value (u ∷ us) (Some w) e = poke_place place value u us w (address_of u) e refl

poke_words : (letter place value : List ℕ) → PokeSays place value (said (codes "poke" ∷ letter ∷ (words_of place ++ words_of value)))
poke_words letter place value = poke_width place value (words_of place ++ words_of value) (width_of letter) refl

-- the line pokes memory if it does anything
poke_says : (letter place value : List ℕ) → words_of letter ≡ letter ∷ [] → PokeSays place value (command_of (codes "poke " ++ (letter ++ 32 ∷ (place ++ 32 ∷ (value ++ [])))))
poke_says letter place value single =
    let bare : value ++ [] ≡ value = append-nil value in
    let first : words_of (letter ++ 32 ∷ (place ++ 32 ∷ value)) ≡ words_of letter ++ words_of (place ++ 32 ∷ value) = words_apart letter (place ++ 32 ∷ value) in
    let apart : words_of (place ++ 32 ∷ value) ≡ words_of place ++ words_of value = words_apart place value in
    let all : words_of (letter ++ 32 ∷ (place ++ 32 ∷ value)) ≡ letter ∷ (words_of place ++ words_of value) = first ∙ rw (single, apart) refl in
    let line : List ℕ = codes "poke " ++ (letter ++ 32 ∷ (place ++ 32 ∷ (value ++ []))) in
    let here : PokeSays place value (said (codes "poke" ∷ words_of (letter ++ 32 ∷ (place ++ 32 ∷ value)))) = rw all (poke_words letter place value) in
    short_poke place value (nat_lt 256 (length line)) (said (words_of line)) (subst (λ (rest : List ℕ). PokeSays place value (said (words_of (codes "poke " ++ (letter ++ 32 ∷ (place ++ 32 ∷ rest)))))) (sym bare) here)

pub data_says : (letter name value : List ℕ) → words_of letter ≡ letter ∷ [] → PokeSays (36 ∷ name) value (command_of (poke_line letter name value))
data_says letter name value single = poke_says letter (36 ∷ name) value single

pub at_says : (letter : List ℕ) (a : ℕ) (value : List ℕ) → words_of letter ≡ letter ∷ [] → PokeSays (decimal a) value (command_of (poke_at_line letter a value))
at_says letter a value single = poke_says letter (decimal a) value single

-- ---- names of globals

plus_apart : (x : ℕ) → (x == 43) ≡ true → is_name_byte x ≡ true → ⊥
plus_apart x p n = grind (arith, nat_tests, p, n)

no_plus : (x : ℕ) → is_name_byte x ≡ true → is_no_plus x ≡ true
no_plus x n = elim (cases_Bool (x == 43)) [
  | inl t ↦ absurd (plus_apart x t n)
  | inr f ↦ ap not f
]

prefix_all : (xs : List ℕ) → list_all is_no_plus xs ≡ true → (take (prefix_len is_no_plus xs) xs ≡ xs) × (drop (prefix_len is_no_plus xs) xs ≡ [])
prefix_all [] all = (refl, refl)
prefix_all (x ∷ xs) all =
    let first : is_no_plus x ≡ true = and_first (is_no_plus x) (list_all is_no_plus xs) all in
    let rest = prefix_all xs (and_second (is_no_plus x) (list_all is_no_plus xs) all) in
    let next : 1 + prefix_len is_no_plus xs ≡ suc (prefix_len is_no_plus xs) = omega arith in
    let more : prefix_len is_no_plus (x ∷ xs) ≡ suc (prefix_len is_no_plus xs) = rw first next in
    (rw more (ap (λ (ys : List ℕ). x ∷ ys) rest.0), rw more rest.1)

pub global_word : (name : List ℕ) → is_name name ≡ true → words_of (36 ∷ name) ≡ (36 ∷ name) ∷ []
global_word name is = one_word 36 name (all_of is_name_byte is_word_byte name_word name (and_second (not (length name == 0)) (list_all is_name_byte name) is))

-- the word of a global is its address
pub named_global : (name : List ℕ) → is_name name ≡ true → address_of (36 ∷ name) ≡ Some (addresses.Global name 0)
named_global name is =
    let bytes : list_all is_no_plus (36 ∷ name) ≡ true = all_of is_name_byte is_no_plus no_plus name (and_second (not (length name == 0)) (list_all is_name_byte name) is) in
    let whole = prefix_all (36 ∷ name) bytes in
    let named : global_of (36 ∷ name) ≡ Some name = rw is refl in
    let first : sum_of (global_of (take (prefix_len is_no_plus (36 ∷ name)) (36 ∷ name))) (offset_of (drop (prefix_len is_no_plus (36 ∷ name)) (36 ∷ name))) ≡ sum_of (global_of (36 ∷ name)) (offset_of []) =
    (λ i. sum_of (global_of (whole.0 i)) (offset_of (whole.1 i))) in
    first ∙ rw named refl
