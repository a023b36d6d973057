-- One message is at the start of an input, and no other.
use Rattle.std.proofs.Common.{◌≡◌, ℕ, ◌<◌, ◌≤◌, ◌^◌, List, [], ◌∷◌, ◌++◌, length, length-append, refl, sym, ap, ◌∙◌, append_assoc, arith, subst, Ok, Err, Result}
use Rattle.std.specs.Prelude.{Option, Some, None}
use Rattle.std.specs.Str.Parse.{digits_value}
use Rattle.std.specs.Io.KnownBytes.{Consumes}
use Rattle.std.proofs.lemmas.List.{append-nil}
use Rattle.qil_streams.proofs.DeviceLemmas.{Consumes-append}
use Rattle.qrev_protocol.specs.Frame.{digits_in, SayLength, IsHeader, IsMessage, HasNone}
use Rattle.qrev_protocol.specs.Incoming.{TakesAll, TakesMessage, Gives}
use Rattle.qrev_protocol.specs.declared.incoming.Came.{Came}
use Rattle.qrev_protocol.specs.declared.incoming.Came.TheVariants as came
use Rattle.qrev_protocol.specs.declared.incoming.ReadError.{ReadError}
use Rattle.qrev_protocol.proofs.Lines.{head_same, tail_same, first_and_rest}
use Rattle.qrev_protocol.proofs.Lost.{message_lines}

-- two prefixes of one length
pub same_front : (xs ys more rest : List ℕ) → length xs ≡ length ys → xs ++ more ≡ ys ++ rest → (xs ≡ ys) × (more ≡ rest)
same_front [] [] more rest n e = (refl, e)
same_front [] (y ∷ ys) more rest n e = absurd (omega arith)
same_front (x ∷ xs) [] more rest n e = absurd (omega arith)
same_front (x ∷ xs) (y ∷ ys) more rest n e =
    let inner = same_front xs ys more rest (omega arith) (tail_same x y (xs ++ more) (ys ++ rest) e) in
    (first_and_rest x y xs ys (head_same x y (xs ++ more) (ys ++ rest) e) inner.0, inner.1)

-- the same lines say one length
pub one_length : (lines : List (List ℕ)) (m n : ℕ) → SayLength lines m → SayLength lines n → m ≡ n
one_length lines m n p q =
    let lone : p.0 ∷ [] ≡ q.0 ∷ [] = sym p.1 ∙ q.1 in
    let same : p.0 ≡ q.0 = cc in
    sym p.2.1 ∙ ap (λ v. digits_value 10 (digits_in v)) same ∙ q.2.1

-- a header, and a message that begins with it
pub header_begins : (text : List ℕ) (n : ℕ) (part message body rest : List ℕ) → (h : IsHeader text n) → (m : IsMessage message body) → text ++ part ≡ message ++ rest → (n ≡ length body) × (part ≡ body ++ rest)
header_begins text n part message body rest h m e =
    let same = message_lines h.lines h.blank part message body rest h.are_lines h.is_blank m (ap (λ v. v ++ part) (sym h.whole) ∙ e) in
    (one_length h.lines n (length body) h.says (subst (λ v. SayLength v (length body)) same.0 m.says.says), same.1)

pub one_message : (message body more other there rest : List ℕ) → IsMessage message body → IsMessage other there → message ++ more ≡ other ++ rest → (body ≡ there) × (more ≡ rest)
one_message message body more other there rest m o e =
    let same = header_begins m.text (length body) (body ++ more) other there rest m.says o (sym (ap (λ v. v ++ more) m.whole ∙ append_assoc m.text body more) ∙ e) in
    same_front body there more rest same.0 same.1

-- the input ended in a body
pub cut_in_body : (text part : List ℕ) (n : ℕ) → IsHeader text n → length part < n → HasNone (text ++ part)
cut_in_body text part n h short message body rest m e =
    let same = header_begins text n part message body rest h m e in omega (arith, same.0, ap length same.1 ∙ length-append body rest)

-- what was given is the message that is at the start
pub gives : {A : Type 0} (read : Result (Came A) ReadError) (before after : Option (List ℕ)) → TakesMessage read before after
    → (message body more : List ℕ) → IsMessage message body → before ≡ Some (message ++ more) → Gives read body after more
gives (Err x) before after t message body more m e = tt
gives (Ok (came.Body got)) before None t message body more m e = absurd (subst (λ v. Consumes v None t.0) e t.2)
gives (Ok (came.Body got)) before (Some left) t message body more m e =
    let taken = subst (λ v. Consumes v (Some left) t.0) e t.2 in
    let same = one_message t.0 got.items left message body more t.1 m (sym taken) in
    (same.0, ap Some same.1)
gives (Ok came.End) before None t message body more m e = absurd (subst (λ v. Consumes v None t.0) e t.1.0)
gives (Ok came.End) before (Some left) t message body more m e =
    let taken = subst (λ v. Consumes v (Some left) t.0) e t.1.0 in
    t.2 message body more m (sym (taken ∙ ap (λ v. t.0 ++ v) t.1.1 ∙ append-nil t.0))
gives (Ok came.Lost) before None t message body more m e = absurd (subst (λ v. Consumes v None t.0) e t.1)
gives (Ok came.Lost) before (Some left) t message body more m e =
    let taken = subst (λ v. Consumes v (Some left) t.0) e t.1 in t.2 left message body more m (sym taken)

-- a header and a whole body
pub whole_message : (text body : List ℕ) (before middle after : Option (List ℕ)) → IsHeader text (length body) → length body ≤ 2 ^ 20 → Consumes before middle text → Consumes middle after body
    → (message : List ℕ) × IsMessage message body × Consumes before after message
whole_message text body before middle after h small taken more =
    (text ++ body, record { text = text; says = h; within = small; whole = refl }, Consumes-append before middle after text body taken more)

-- a header, and the input ends within the body
pub part_of_message : (text : List ℕ) (n : ℕ) (part : List ℕ) (before middle after : Option (List ℕ)) → IsHeader text n → Consumes before middle text → TakesAll middle after part → length part < n
    → (prefix : List ℕ) × TakesAll before after prefix × HasNone prefix
part_of_message text n part before middle after h taken more short =
    (text ++ part, (Consumes-append before middle after text part taken more.0, more.1), cut_in_body text part n h short)
