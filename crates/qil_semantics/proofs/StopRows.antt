-- Sessions with stops and with bounded histories, computed. The values were worked out by hand.
use Rattle.std.proofs.Common.{◌≡◌, refl, ℕ, true, List, [], ◌∷◌, Some, None, Err}
use Rattle.std.specs.Prelude.{codes}
use Rattle.qil_tree.specs.declared.tree.JumpKind.TheVariants as jumps
use Rattle.qil_tree.specs.declared.tree.Program.{Program}
use Rattle.qil_semantics.specs.State.{Name, running, done, exited}
use Rattle.qil_semantics.specs.Poke.{unknown_temporary, no_frame, poke_temp}
use Rattle.qil_semantics.specs.Timeline.{back, moved, gone}
use Rattle.qil_semantics.specs.Moves.{forward_by, back_by}
use Rattle.qil_semantics.specs.Stops.{memory_at, Place, break_at, watch, Numbered}
use Rattle.qil_semantics.specs.declared.reason.Reason.TheVariants.{End, Watch, Break, Start, Oldest, Limit}
use Rattle.qil_semantics.specs.Runs.{within, stop_on}
use Rattle.qil_semantics.proofs.Programs.{A0, block, func, prog, spot, spot_of, of_session, runs_on, runs_back, sessions}
use Rattle.qil_semantics.proofs.Rows.{adds, reused_stack, hello}
use Rattle.qil_semantics.proofs.Readings.{watched_word}

abbrev here : Name → ℕ → Place
here b k = record { func = codes "main"; label = b; index = k }

abbrev start : ℕ → Place
start k = here (codes "start") k

abbrev one_watch : ℕ → ℕ → List Numbered
one_watch a n = record { number = 1; stop = watch (memory_at a n) } ∷ []

abbrev one_break : Place → List Numbered
one_break place = record { number = 1; stop = break_at place } ∷ []

-- ---- a word that is watched: three times on, three times back

watched-first : of_session None watched_word (runs_on watched_word (one_watch 65536 4) 1) ≡ Some (true, Some (Watch 1))
unfolding sessions
watched-first = refl

watched-second : of_session None watched_word (λ t. runs_on watched_word (one_watch 65536 4) 2 (moved watched_word 1 t)) ≡ Some (true, Some (Watch 1))
unfolding sessions
watched-second = refl

watched-third : of_session None watched_word (λ t. runs_on watched_word (one_watch 65536 4) 1 (moved watched_word 3 t)) ≡ Some (true, Some End)
unfolding sessions
watched-third = refl

watched-end : of_session None watched_word (λ t. spot (moved watched_word 4 t)) ≡ Some (4, done None, [])
unfolding sessions
watched-end = refl

watched-no_more : of_session None watched_word (λ t. runs_on watched_word (one_watch 65536 4) 0 (moved watched_word 4 t)) ≡ Some (true, Some End)
unfolding sessions
watched-no_more = refl

watched-back : of_session None watched_word (λ t. runs_back (one_watch 65536 4) 2 (moved watched_word 4 t)) ≡ Some (true, Some (Watch 1))
unfolding sessions
watched-back = refl

watched-back_place : of_session None watched_word (λ t. spot (gone 2 (moved watched_word 4 t))) ≡ Some (2, running, start 2 ∷ [])
unfolding sessions
watched-back_place = refl

watched-back_more : of_session None watched_word (λ t. runs_back (one_watch 65536 4) 2 (moved watched_word 2 t)) ≡ Some (true, Some (Watch 1))
unfolding sessions
watched-back_more = refl

watched-start : of_session None watched_word (runs_back (one_watch 65536 4) 0) ≡ Some (true, Some Start)
unfolding sessions
watched-start = refl

watched-deleted : of_session None watched_word (λ t. runs_back [] 2 (moved watched_word 2 t)) ≡ Some (true, Some Start)
unfolding sessions
watched-deleted = refl

-- ---- a breakpoint

broken : of_session None adds (runs_on adds (one_break (start 1)) 1) ≡ Some (true, Some (Break 1))
unfolding sessions
broken = refl

broken-then_end : of_session None adds (λ t. runs_on adds (one_break (start 1)) 1 (moved adds 1 t)) ≡ Some (true, Some End)
unfolding sessions
broken-then_end = refl

broken-back : of_session None adds (λ t. runs_back (one_break (start 1)) 1 (moved adds 2 t)) ≡ Some (true, Some (Break 1))
unfolding sessions
broken-back = refl

broken-no_poke : of_session None adds (λ t. poke_temp adds (moved adds 2 t).now (codes "x") 1) ≡ Some (Err no_frame)
unfolding sessions
broken-no_poke = refl

no_stops-back : of_session None adds (λ t. runs_back [] 2 (moved adds 2 t)) ≡ Some (true, Some Start)
unfolding sessions
no_stops-back = refl

-- ---- a byte of the stack, which lives, is written, dies and lives again

byte-lives : of_session None reused_stack (runs_on reused_stack (one_watch 16777216 1) 2) ≡ Some (true, Some (Watch 1))
unfolding sessions
byte-lives = refl

byte-written : of_session None reused_stack (λ t. runs_on reused_stack (one_watch 16777216 1) 1 (moved reused_stack 2 t)) ≡ Some (true, Some (Watch 1))
unfolding sessions
byte-written = refl

byte-dies : of_session None reused_stack (λ t. runs_on reused_stack (one_watch 16777216 1) 1 (moved reused_stack 3 t)) ≡ Some (true, Some (Watch 1))
unfolding sessions
byte-dies = refl

byte-lives_back : of_session None reused_stack (λ t. runs_back (one_watch 16777216 1) 1 (moved reused_stack 4 t)) ≡ Some (true, Some (Watch 1))
unfolding sessions
byte-lives_back = refl

byte-unwritten : of_session None reused_stack (λ t. runs_back (one_watch 16777216 1) 1 (moved reused_stack 3 t)) ≡ Some (true, Some (Watch 1))
unfolding sessions
byte-unwritten = refl

byte-dead_again : of_session None reused_stack (λ t. runs_back (one_watch 16777216 1) 1 (moved reused_stack 2 t)) ≡ Some (true, Some (Watch 1))
unfolding sessions
byte-dead_again = refl

byte-place : of_session None reused_stack (λ t. spot (gone 3 (moved reused_stack 4 t))) ≡ Some (1, running, record { func = codes "f"; label = codes "s"; index = 0 } ∷ (start 1 ∷ []))
unfolding sessions
byte-place = refl

-- ---- a run without end

abbrev pub looping : Program A0
looping = prog [] ((func None (codes "main") [] ((block (codes "start") [] [] (jumps.Jmp (codes "l"))) ∷ ((block (codes "l") [] [] (jumps.Jmp (codes "l"))) ∷ []))) ∷ [])

abbrev loop : Place
loop = here (codes "l") 0

not_limited : of_session None looping (λ t. within 3 2 (stop_on looping [] t 2)) ≡ Some None
unfolding sessions
not_limited = refl

limited : of_session None looping (λ t. within 3 3 (stop_on looping [] t 3)) ≡ Some (Some Limit)
unfolding sessions
limited = refl

-- two moves are kept: five on, three back, and none more
kept-on : of_session (Some 2) looping (λ t. spot (forward_by looping 5 t)) ≡ Some (5, running, loop ∷ [])
unfolding sessions
kept-on = refl

kept-back : of_session (Some 2) looping (λ t. spot (back_by 3 (forward_by looping 5 t))) ≡ Some (3, running, loop ∷ [])
unfolding sessions
kept-back = refl

kept-no_more : of_session (Some 2) looping (λ t. spot_of (back (back_by 3 (forward_by looping 5 t)))) ≡ Some None
unfolding sessions
kept-no_more = refl

-- `reverse` comes to the oldest state that is kept, and stays there
oldest-reached : of_session (Some 2) looping (λ t. runs_back [] 2 (forward_by looping 5 t)) ≡ Some (true, Some Oldest)
unfolding sessions
oldest-reached = refl

oldest-stays : of_session (Some 2) looping (λ t. runs_back [] 0 (gone 2 (forward_by looping 5 t))) ≡ Some (true, Some Oldest)
unfolding sessions
oldest-stays = refl

oldest-on : of_session (Some 2) looping (λ t. spot (forward_by looping 1 (gone 2 (forward_by looping 5 t)))) ≡ Some (4, running, loop ∷ [])
unfolding sessions
oldest-on = refl

oldest-back : of_session (Some 2) looping (λ t. spot (back_by 9 (forward_by looping 1 (gone 2 (forward_by looping 5 t))))) ≡ Some (3, running, loop ∷ [])
unfolding sessions
oldest-back = refl

-- five moves are kept, and five made: the start is still there
start-reached : of_session (Some 5) looping (λ t. runs_back [] 5 (forward_by looping 5 t)) ≡ Some (true, Some Start)
unfolding sessions
start-reached = refl

start-no_more : of_session (Some 5) looping (λ t. spot_of (back (gone 5 (forward_by looping 5 t)))) ≡ Some None
unfolding sessions
start-no_more = refl

-- a breakpoint comes before the oldest state
break-first : of_session (Some 2) looping (λ t. runs_back (one_break loop) 1 (forward_by looping 5 t)) ≡ Some (true, Some (Break 1))
unfolding sessions
break-first = refl

break-second : of_session (Some 2) looping (λ t. runs_back (one_break loop) 1 (gone 1 (forward_by looping 5 t))) ≡ Some (true, Some (Break 1))
unfolding sessions
break-second = refl

break-third : of_session (Some 2) looping (λ t. runs_back (one_break loop) 0 (gone 2 (forward_by looping 5 t))) ≡ Some (true, Some Oldest)
unfolding sessions
break-third = refl

-- one move is kept
one-poke : of_session (Some 1) looping (λ t. poke_temp looping t.now (codes "z") 1) ≡ Some (Err unknown_temporary)
unfolding sessions
one-poke = refl

one-on : of_session (Some 1) looping (λ t. spot (forward_by looping 1 t)) ≡ Some (1, running, loop ∷ [])
unfolding sessions
one-on = refl

one-back : of_session (Some 1) looping (λ t. spot_of (back (forward_by looping 1 t))) ≡ Some (Some (0, running, start 0 ∷ []))
unfolding sessions
one-back = refl

one-no_more : of_session (Some 1) looping (λ t. spot_of (back (back_by 1 (forward_by looping 1 t)))) ≡ Some None
unfolding sessions
one-no_more = refl

-- ---- a run that ends itself

exit-on : of_session None hello (λ t. spot (forward_by hello 9 t)) ≡ Some (2, exited 7, start 1 ∷ [])
unfolding sessions
exit-on = refl

exit-ends : of_session None hello (runs_on hello [] 2) ≡ Some (true, Some End)
unfolding sessions
exit-ends = refl
