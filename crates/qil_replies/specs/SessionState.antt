-- A session as its answers see it, and what the words of commands name.
use Rattle.std.specs.Prelude.{ℕ, ◌+◌, ◌%◌, ◌^◌, ◌==◌, ◌||◌, Bool, List, length, Option, Some, None, option_map}
use Rattle.std.specs.Option.{option_and_then}
use Rattle.qil_tree.specs.declared.tree.Program.{Program}
use Rattle.qil_layout.specs.Layout.{address_of}
use Rattle.qil_commands.specs.declared.command.Address.{Address}
use Rattle.qil_commands.specs.declared.command.Address.TheVariants as addresses
use Rattle.qil_commands.specs.declared.command.BreakPlace.{BreakPlace}
use Rattle.qil_symbols.specs.Numbers.{place_of}
use Rattle.qil_semantics.specs.State.{Name}
use Rattle.qil_semantics.specs.Timeline.{Timeline, position}
use Rattle.qil_code.specs.Numbered.{names_of}
use Rattle.qil_code.specs.Reading.{func_names, labels_at}
use Rattle.qil_stops.specs.declared.stop.Place.{Place}
use Rattle.qil_stops.specs.declared.stop.Watched.{Watched}
use Rattle.qil_stops.specs.declared.stop.Watched.TheVariants as watches
use Rattle.qil_stops.specs.declared.stop.StopKind.{StopKind}
use Rattle.qil_stops.specs.declared.stop.StopKind.TheVariants as kinds
use Rattle.qil_stops.specs.Listed.{Listed}
use Rattle.qil_stops.specs.Named.{has_place, has_watched}
use Rattle.qil_replies.specs.declared.reply.Reply.{Reply}
use Rattle.qil_replies.specs.Reply.{reply_text}

-- The program, the timeline of its run, the stops by number, how many moves `continue` and `reverse` make at most, and whether
-- a move may want memory: where none does, only a poke can find none.
pub record SessionState (A : Type 0) : Type 0 where
  pub program : Program A
  pub timeline : Timeline
  pub stops : Listed
  pub limit : ℕ
  pub moves_want_memory : Bool

abbrev pub session_at : {A : Type 0} → Bool → Program A → Timeline → Listed → ℕ → SessionState A
session_at wants p t stops limit = record { program = p; timeline = t; stops = stops; limit = limit; moves_want_memory = wants }

-- the text of a reply that leaves this situation
abbrev pub text_in : {A : Type 0} → SessionState A → Reply A → List ℕ
text_in s reply = reply_text s.program (position s.timeline) s.timeline.now s.stops.kept reply

-- ---- what words name, if the program has it

-- the address that a word says
abbrev pub resolved_address : {A : Type 0} → Program A → Address → Option ℕ
resolved_address p (addresses.Number n) = Some n
resolved_address p (addresses.Global name offset) = option_map (λ a. (a + offset) % 2 ^ 64) (address_of p name)

-- the i-th function, its block of a label, and an index there: the start of the function where no more is said
abbrev pub place_in : {A : Type 0} → Program A → ℕ → Option BreakPlace → Option Place
place_in p i None = Some (record { func = record { index = i }; block = record { index = 0 }; index = 0 })
place_in p i (Some at) = option_map (λ b. record { func = record { index = i }; block = record { index = b }; index = at.index }) (place_of (labels_at p i) at.label)

-- the place that `break` says
abbrev pub resolved_place : {A : Type 0} → Program A → Name → Option BreakPlace → Option Place
resolved_place p func at = option_and_then (λ i. place_in p i at) (place_of (func_names p) func)

-- the temporary that `watch` says
abbrev pub resolved_temp : {A : Type 0} → Program A → Name → Name → Option Watched
resolved_temp p func x =
    option_and_then (λ i. option_map (λ s. watches.Temp (record { index = i }) (record { index = s })) (place_of (names_of p i) x)) (place_of (func_names p) func)

-- ---- stops

-- the program has what a stop looks for
abbrev pub has_kind : {A : Type 0} → Program A → StopKind → Bool
has_kind p (kinds.Break place) = has_place p place
has_kind p (kinds.Watch watched) = has_watched p watched

-- no stop can be added: there are 64, or all numbers were given
abbrev pub is_full : Listed → Bool
is_full stops = (length stops.kept == 64) || (stops.given == 2 ^ 62)
