-- What a line says: the command that its words spell, nothing, or the first refusal.
use Rattle.std.specs.Prelude.{ℕ, List, [], ◌∷◌, length, codes, cond, if◌then◌else◌, nat_lt, Option, Some, None, option_map, Result, Ok, Err}
use Rattle.std.specs.Option.{option_or}
use Rattle.std.specs.Str.{bytes_eq}
use Rattle.qil_commands.specs.declared.command.Command.{Command}
use Rattle.qil_commands.specs.declared.command.Command.TheVariants as commands
use Rattle.qil_commands.specs.declared.command.WatchTarget.{WatchTarget}
use Rattle.qil_commands.specs.declared.command.WatchTarget.TheVariants as watch_target
use Rattle.qil_commands.specs.declared.command.Verb.{Verb}
use Rattle.qil_commands.specs.declared.command.Verb.TheVariants as verbs
use Rattle.qil_commands.specs.declared.command.Refused.{Refused}
use Rattle.qil_commands.specs.declared.command.Refused.TheVariants.{LineTooLong, UnknownCommand, MissingWord, BadWord, ExtraWord}
use Rattle.qil_commands.specs.Words.{words_of}
use Rattle.qil_commands.specs.Numbers.{number_of, count_of, byte_count_of, value_of, temporary_of, global_of, label_of, width_of, address_of}

-- what comes of a value, if there is one
infixl 10 ◌>>=◌
abbrev pub ◌>>=◌ : {A B : Type 0} → Result A Refused → (A → Result B Refused) → Result B Refused
(Ok a) >>= f = f a
(Err e) >>= f = Err e

abbrev pub if_word : List ℕ → List ℕ → Verb → Option Verb → Option Verb
if_word word is verb others = if bytes_eq word is then Some verb else others

-- the verbs that move, and the one that ends
abbrev pub moving_verb : List ℕ → Option Verb
moving_verb word =
    if_word word (codes "step") verbs.Step (if_word word (codes "back") verbs.Back
    (if_word word (codes "continue") verbs.Continue (if_word word (codes "reverse") verbs.Reverse
    (if_word word (codes "set") verbs.Set (if_word word (codes "poke") verbs.Poke (if_word word (codes "quit") verbs.Quit
    (if_word word (codes "accesses") verbs.Accesses (if_word word (codes "counts") verbs.Counts
    (if_word word (codes "frames") verbs.Frames None)))))))))

-- the verbs of stops
abbrev pub stopping_verb : List ℕ → Option Verb
stopping_verb word =
    if_word word (codes "break") verbs.Break (if_word word (codes "watch") verbs.Watch
    (if_word word (codes "delete") verbs.Delete (if_word word (codes "stops") verbs.Stops None)))

-- the verbs that show
abbrev pub showing_verb : List ℕ → Option Verb
showing_verb word =
    if_word word (codes "print") verbs.Print (if_word word (codes "temps") verbs.Temps (if_word word (codes "mem") verbs.Mem
    (if_word word (codes "where") verbs.Where (if_word word (codes "list") verbs.List (if_word word (codes "out") verbs.Out None)))))

abbrev pub verb_named : List ℕ → Option Verb
verb_named word = option_or (moving_verb word) (option_or (stopping_verb word) (showing_verb word))

-- a word that was shaped as asked, and the words after it
abbrev pub shaped : {A : Type 0} → Option A → List (List ℕ) → Result (A × List (List ℕ)) Refused
shaped (Some a) words = Ok (a, words)
shaped None words = Err BadWord

-- a word of that shape has to come
abbrev pub needed : {A : Type 0} → (List ℕ → Option A) → List (List ℕ) → Result (A × List (List ℕ)) Refused
needed shape [] = Err MissingWord
needed shape (word ∷ words) = shaped (shape word) words

-- a word of that shape may come, else this value represents it
abbrev pub perhaps : {A : Type 0} → A → (List ℕ → Option A) → List (List ℕ) → Result (A × List (List ℕ)) Refused
perhaps a shape [] = Ok (a, [])
perhaps a shape (word ∷ words) = shaped (shape word) words

-- no word is left over
abbrev pub alone : {A : Type 0} → A → List (List ℕ) → Result A Refused
alone a [] = Ok a
alone a (word ∷ words) = Err ExtraWord

-- ---- the words after each verb

-- a word of that shape may come
abbrev pub may : {A : Type 0} → (List ℕ → Option A) → List (List ℕ) → Result (Option A × List (List ℕ)) Refused
may shape words = perhaps None (λ word. option_map Some (shape word)) words

-- a place in a function: the first instruction of its first block; or in the block of a label that of an index, or the first
abbrev pub break_in : List ℕ → Option (List ℕ) → List (List ℕ) → Result Command Refused
break_in f None words = alone (commands.Break f None) words
break_in f (Some b) words = perhaps 0 number_of words >>= λ k. alone (commands.Break f (Some (record { label = b; index = k.0 }))) k.1

-- what a watch looks at, by the word after `watch`: the letter of a width, or a function
abbrev pub watch_target_of : List ℕ → Option WatchTarget
watch_target_of word = option_or (option_map watch_target.Bytes (width_of word)) (option_map watch_target.Temp (global_of word))

abbrev pub watch_of : WatchTarget → List (List ℕ) → Result Command Refused
watch_of (watch_target.Bytes w) words = needed address_of words >>= λ a. alone (commands.WatchBytes w a.0) a.1
watch_of (watch_target.Temp f) words = needed temporary_of words >>= λ x. alone (commands.WatchTemp f x.0) x.1

-- the command of a verb and the words after it
abbrev pub spelled : Verb → List (List ℕ) → Result Command Refused
spelled verbs.Step words = perhaps 1 count_of words >>= λ n. alone (commands.Step n.0) n.1
spelled verbs.Back words = perhaps 1 count_of words >>= λ n. alone (commands.Back n.0) n.1
spelled verbs.Accesses words = needed count_of words >>= λ n. needed address_of n.1 >>= λ a. needed count_of a.1 >>= λ m. alone (commands.Accesses n.0 a.0 m.0) m.1
spelled verbs.Counts words = needed count_of words >>= λ n. alone (commands.Counts n.0) n.1
spelled verbs.Frames words = needed count_of words >>= λ n. needed count_of n.1 >>= λ d. alone (commands.Frames n.0 d.0) d.1
spelled verbs.Continue words = alone commands.Continue words
spelled verbs.Reverse words = alone commands.Reverse words
spelled verbs.Set words = needed temporary_of words >>= λ x. needed value_of x.1 >>= λ v. alone (commands.Set x.0 v.0) v.1
spelled verbs.Poke words = needed width_of words >>= λ w. needed address_of w.1 >>= λ a. needed value_of a.1 >>= λ v. alone (commands.Poke w.0 a.0 v.0) v.1
spelled verbs.Break words = needed global_of words >>= λ f. may label_of f.1 >>= λ b. break_in f.0 b.0 b.1
spelled verbs.Watch words = needed watch_target_of words >>= λ what. watch_of what.0 what.1
spelled verbs.Delete words = needed number_of words >>= λ n. alone (commands.Delete n.0) n.1
spelled verbs.Stops words = alone commands.Stops words
spelled verbs.Print words = needed temporary_of words >>= λ name. alone (commands.Print name.0) name.1
spelled verbs.Temps words = alone commands.Temps words
spelled verbs.Mem words = needed address_of words >>= λ a. needed byte_count_of a.1 >>= λ n. alone (commands.Mem a.0 n.0) n.1
spelled verbs.Where words = alone commands.Where words
spelled verbs.List words = alone commands.List words
spelled verbs.Out words = alone commands.Out words
spelled verbs.Quit words = alone commands.Quit words

abbrev pub named : Option Verb → List (List ℕ) → Result Command Refused
named None words = Err UnknownCommand
named (Some verb) words = spelled verb words

-- nothing, where there is no word
abbrev pub said : List (List ℕ) → Result (Option Command) Refused
said [] = Ok None
said (word ∷ words) = named (verb_named word) words >>= λ command. Ok (Some command)

-- what a line says, its newline left out
abbrev pub command_of : List ℕ → Result (Option Command) Refused
command_of line = cond (nat_lt 256 (length line)) (Err LineTooLong) (said (words_of line))

-- ---- what code has read so far

-- a value that was read, and the words that are left
abbrev pub with_rest : {A : Type 0} → Result A Refused → List (List ℕ) → Result (A × List (List ℕ)) Refused
with_rest (Ok a) words = Ok (a, words)
with_rest (Err e) words = Err e
