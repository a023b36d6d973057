-- How a conversation goes on: by a response, and by events.
use Rattle.std.proofs.Common.{◌≡◌, ℕ, suc, ◌+◌, List, [], ◌∷◌, ◌++◌, length, length-append, flat_map, refl, sym, ap, ◌∙◌, append_assoc, arith, subst, Bool, false}
use Rattle.std.specs.Prelude.{Result, Ok, Err, IsErrAnd, OnOk, codes, decimal}
use Rattle.std.proofs.Common.{inl, inr}
use Rattle.std.specs.List.{AllByRecursion}
use Rattle.std.proofs.lemmas.List.{append-nil}
use Rattle.std.proofs.lemmas.Result.{err_from_is_err_and}
use Rattle.std.proofs.lemmas.List.Concat.{flat_map-append}
use Rattle.std.specs.Io.KnownBytes.{Appends}
use Rattle.json.specs.Token.{Token, key, number, end_object}
use Rattle.json.specs.Print.{print, print_from, separator, token_text, ends}
use Rattle.qil_streams.specs.Device.{IsPrefixOf}
use Rattle.qil_streams.proofs.DeviceLemmas.{Appends-nil, Appends-append}
use Rattle.qrev_protocol.specs.Frame.{framed}
use Rattle.json.specs.Written.{Written}
use Rattle.qrev_protocol.specs.Open.{IsJson}
use Rattle.qrev_protocol.specs.Outgoing.{Adds, response_head, event_head}
use Rattle.qrev_protocol.specs.declared.outgoing.Outcome.TheVariants.{Done}
use Rattle.qrev_notices.specs.declared.trouble.Trouble.{Trouble}
use Rattle.qrev_notices.specs.declared.trouble.Trouble.TheVariants.{OutOfMemory, Device}
use Rattle.qrev_notices.specs.Conversation.{Asked, Spoken, Says, message_text, IsNumbered, AreNumbered, BeginsAs, IsResponse, IsEvent, AreReply, AreReplies, HasReplied, HasRepliedPart, HasResponded, SaysPart, Sends, Responds, Tells, IsEventSoFar}
use Rattle.qrev_notices.specs.Last.{IsNamedEvent, TellsLast}

-- a text of tokens begins as the first of them do
printed : (after : Bool) (head more : List Token) → (rest : List ℕ) × (print_from after (head ++ more) ≡ print_from after head ++ rest)
unfolding print_from
printed after [] more = (print_from after more, refl)
printed after (t ∷ ts) more =
    let others = printed (ends t) ts more in (
      others.0,
      ap (λ (v : List ℕ). separator after t ++ (token_text t ++ v)) others.1
          ∙ ap (λ (v : List ℕ). separator after t ++ v) (sym (append_assoc (token_text t) (print_from (ends t) ts) others.0))
          ∙ sym (append_assoc (separator after t) (token_text t ++ print_from (ends t) ts) others.0),
    )

-- and so does a message
pub begins : (n : ℕ) (head more tokens : List Token) → tokens ≡ head ++ more → BeginsAs (message_text n tokens) head
begins n head more tokens e =
    let seq : List Token = key (codes "seq") ∷ number (decimal n) ∷ end_object ∷ [] in
    let p = printed false head (more ++ seq) in
    (p.0, ap (λ (v : List Token). print (v ++ seq)) e ∙ ap print (append_assoc head more seq) ∙ p.1)

numbered_on : (n : ℕ) (texts : List (List ℕ)) (text : List ℕ) → AreNumbered n texts → IsNumbered (n + length texts) text → AreNumbered n (texts ++ text ∷ [])
numbered_on n [] text all one = (subst (λ (k : ℕ). IsNumbered k text) (omega arith) one, tt)
numbered_on n (t ∷ ts) text all one = (all.0, numbered_on (suc n) ts text all.1 (subst (λ (k : ℕ). IsNumbered k text) (omega arith) one))

json_more : (texts : List (List ℕ)) (text : List ℕ) → AllByRecursion IsJson texts → IsJson text → AllByRecursion IsJson (texts ++ text ∷ [])
json_more [] text all one = (one, tt)
json_more (t ∷ ts) text all one = (all.0, json_more ts text all.1 one)

-- whatever a call gives
pub on_ok : {T E : Type 0} → (result : Result T E) (P : Type 0) → P → OnOk result P
on_ok (Ok x) P p = p
on_ok (Err e) P p = tt

-- one message more
pub says_more : (start old now : Spoken) (texts : List (List ℕ)) (text : List ℕ) → Says start old texts → IsNumbered (suc old.sent) text → IsJson text
    → Appends old.contents now.contents (framed text) → now.sent ≡ suc old.sent → Says start now (texts ++ text ∷ [])
says_more start old now texts text said one is_json written counted = record {
  written = subst (λ (v : List ℕ). Appends start.contents now.contents v)
      (ap (λ (v : List ℕ). flat_map framed texts ++ v) (sym (append-nil (framed text))) ∙ sym (flat_map-append framed texts (text ∷ [])))
      (Appends-append start.contents old.contents now.contents (flat_map framed texts) (framed text) said.written written);
  counted = omega (arith, counted, said.counted, length-append texts (text ∷ []));
  numbered = numbered_on (suc start.sent) texts text said.numbered (subst (λ (k : ℕ). IsNumbered k text) (omega (arith, said.counted)) one);
  json = json_more texts text said.json is_json;
}

-- a part of one message more
says_part : (start old now : Spoken) (texts : List (List ℕ)) (text part : List ℕ) → Says start old texts → IsNumbered (suc old.sent) text → IsPrefixOf part (framed text)
    → Appends old.contents now.contents part → SaysPart start now (texts ++ text ∷ [])
says_part start old now texts text part said one is written = record {
  part = flat_map framed texts ++ part;
  is_part = (
    is.0,
    flat_map-append framed texts (text ∷ []) ∙ ap (λ (v : List ℕ). flat_map framed texts ++ v) (append-nil (framed text) ∙ is.1)
        ∙ sym (append_assoc (flat_map framed texts) part is.0),
  );
  written = Appends-append start.contents old.contents now.contents (flat_map framed texts) part said.written written;
  numbered = numbered_on (suc start.sent) texts text said.numbered (subst (λ (k : ℕ). IsNumbered k text) (omega (arith, said.counted)) one);
}

-- all of them are a prefix of them
says_whole : (start now : Spoken) (texts : List (List ℕ)) → Says start now texts → SaysPart start now texts
says_whole start now texts said = record { part = flat_map framed texts; is_part = ([], sym (append-nil (flat_map framed texts))); written = said.written; numbered = said.numbered }

pub replied_whole : (start now : Spoken) (asked : List Asked) → HasReplied start asked now → HasRepliedPart start asked now
replied_whole start now asked h = (h.0, h.1, says_whole start now h.0 h.2)

pub says_nothing : (start : Spoken) → Says start start []
says_nothing start = record { written = Appends-nil start.contents; counted = omega arith; numbered = tt; json = tt }

-- replies to one request more
replies_more : (asked : List Asked) (a : Asked) (texts own : List (List ℕ)) → AreReplies asked texts → AreReply a own → AreReplies (asked ++ a ∷ []) (texts ++ own)
replies_more [] a texts own all one = (own, [], one, refl, ap (λ (v : List (List ℕ)). v ++ own) all ∙ sym (append-nil own))
replies_more (b ∷ others) a texts own all one =
    (all.0, all.1 ++ own, all.2, replies_more others a all.1 own all.3 one, ap (λ (v : List (List ℕ)). v ++ own) all.4 ∙ append_assoc all.0 all.1 own)

-- a request that has its response has been replied to
pub replied : (start now : Spoken) (before : List Asked) (a : Asked) → HasResponded start before a now → HasReplied start (before ++ a ∷ []) now
replied start now before a r = (r.0 ++ r.1, replies_more before a r.0 r.1 r.2 r.3, r.4)

-- one event more
event_more : (a : Asked) (own : List (List ℕ)) (text : List ℕ) → AreReply a own → IsEvent text → AreReply a (own ++ text ∷ [])
event_more a own text r e =
    (r.0, r.1 ++ text ∷ [], r.2, all_more r.1 text r.3 e, ap (λ (v : List (List ℕ)). v ++ text ∷ []) r.4)
  where
    all_more : (events : List (List ℕ)) (text : List ℕ) → AllByRecursion IsEvent events → IsEvent text → AllByRecursion IsEvent (events ++ text ∷ [])
    all_more [] text all e = (e, tt)
    all_more (x ∷ xs) text all e = (all.0, all_more xs text all.1 e)

-- a response was sent
pub responds : {T : Type 0} → (result : Result T Trouble) (a : Asked) (text : List ℕ) (old now : Spoken) → IsResponse a text → IsNumbered (suc old.sent) text → OnOk result (IsJson text) → Sends result text old now → Responds result a old now
responds (Ok x) a text old now is n json sent = λ start before h. (h.0, text ∷ [], h.1, (text, [], is, tt, refl), says_more start old now h.0 text h.2 n json sent.0 sent.1)
responds (Err OutOfMemory) a text old now is n json same = λ start before h. inl (subst (λ (s : Spoken). HasReplied start before s) (sym same) h)
responds (Err Device) a text old now is n json sent = λ start before h.
    (h.0 ++ text ∷ [], replies_more before a h.0 (text ∷ []) h.1 (text, [], is, tt, refl), says_part start old now h.0 text sent.0 h.2 n sent.1 sent.2)

-- an event was sent
pub tells : {T : Type 0} → (result : Result T Trouble) (text : List ℕ) (old now : Spoken) → IsEvent text → IsNumbered (suc old.sent) text → OnOk result (IsJson text) → Sends result text old now → Tells result old now
tells (Ok x) text old now is n json sent = λ start before a h.
    (h.0, h.1 ++ text ∷ [], h.2, event_more a h.1 text h.3 is, subst (Says start now) (append_assoc h.0 h.1 (text ∷ [])) (says_more start old now (h.0 ++ h.1) text h.4 n json sent.0 sent.1))
tells (Err OutOfMemory) text old now is n json same = λ start before a h. subst (λ (s : Spoken). HasResponded start before a s) (sym same) h
tells (Err Device) text old now is n json sent = λ start before a h. (
  h.0 ++ (h.1 ++ text ∷ []),
  replies_more before a h.0 (h.1 ++ text ∷ []) h.2 (event_more a h.1 text h.3 is),
  subst (SaysPart start now) (append_assoc h.0 h.1 (text ∷ [])) (says_part start old now (h.0 ++ h.1) text sent.0 h.4 n sent.1 sent.2),
)

-- nothing of a message was sent
pub sends_nothing : (T : Type 0) (trouble : Trouble) (text : List ℕ) (s : Spoken) → Sends {T = T} (Err trouble) text s s
sends_nothing T OutOfMemory text s = refl
sends_nothing T Device text s = ([], (framed text, refl), Appends-nil s.contents)

-- what the exit of a `?` returns
pub sends_exit : (T : Type 0) (result : Result T Trouble) (trouble : Trouble) (text : List ℕ) (old now : Spoken) → IsErrAnd result (λ e. e ≡ trouble) → Sends {T = Unit {0}} (Err trouble) text old now
    → Sends result text old now
sends_exit T result trouble text old now exit sent =
    let p = err_from_is_err_and result exit in
    subst (λ (r : Result T Trouble). Sends r text old now) (sym p.1)
    (subst (λ (e : Trouble). Sends {T = T} (Err e) text old now) (sym p.2) (cast trouble sent))
  where
    cast : (e : Trouble) → Sends {T = Unit {0}} (Err e) text old now → Sends {T = T} (Err e) text old now
    cast OutOfMemory h = h
    cast Device h = h

-- a call failed before anything was sent
pub silent : (T : Type 0) (trouble : Trouble) (a : Asked) (s : Spoken) → Responds {T = T} (Err trouble) a s s
silent T trouble a s =
    let head : List Token = response_head a.seq a.command Done in
    responds {T = T} (Err trouble) a (message_text (suc s.sent) head) s s (Done, begins (suc s.sent) head [] head (sym (append-nil head))) (head, refl) tt
    (sends_nothing T trouble (message_text (suc s.sent) head) s)

pub mute : (T : Type 0) (trouble : Trouble) (s : Spoken) → Tells {T = T} (Err trouble) s s
mute T OutOfMemory s = λ start before a h. h
mute T Device s = λ start before a h. replied_whole start s (before ++ a ∷ []) (replied start s before a h)

-- nothing is sent
pub quiet : {T : Type 0} → (x : T) (s : Spoken) → Tells (Ok x) s s
quiet x s = λ start before a h. h

-- a call that told and one after it
pub told_then : {T U : Type 0} → (x : T) (result : Result U Trouble) (old mid now : Spoken) → Tells (Ok x) old mid → Tells result mid now → Tells result old now
told_then x (Ok y) old mid now one two = λ start before a h. two start before a (one start before a h)
told_then x (Err OutOfMemory) old mid now one two = λ start before a h. two start before a (one start before a h)
told_then x (Err Device) old mid now one two = λ start before a h. two start before a (one start before a h)

-- a response and what is told after it
pub responded_then : {T U : Type 0} → (x : T) (result : Result U Trouble) (a : Asked) (old mid now : Spoken) → Responds (Ok x) a old mid → Tells result mid now → Responds result a old now
responded_then x (Ok y) a old mid now one two = λ start before h. two start before a (one start before h)
responded_then x (Err OutOfMemory) a old mid now one two = λ start before h. inr (two start before a (one start before h))
responded_then x (Err Device) a old mid now one two = λ start before h. two start before a (one start before h)

responds_cast : (T U : Type 0) (e : Trouble) (a : Asked) (old now : Spoken) → Responds {T = T} (Err e) a old now → Responds {T = U} (Err e) a old now
responds_cast T U OutOfMemory a old now h = h
responds_cast T U Device a old now h = h

-- a call that failed by the trouble of one that it made
pub responds_exit : (T : Type 0) (result : Result T Trouble) (trouble : Trouble) (a : Asked) (old now : Spoken) → IsErrAnd result (λ e. e ≡ trouble)
    → Responds {T = Unit {0}} (Err trouble) a old now → Responds result a old now
responds_exit T result trouble a old now exit h =
    let p = err_from_is_err_and result exit in
    subst (λ (r : Result T Trouble). Responds r a old now) (sym p.1) (subst (λ (e : Trouble). Responds {T = T} (Err e) a old now) (sym p.2) (responds_cast (Unit {0}) T trouble a old now h))

pub responds_as : (T U : Type 0) (e f : Trouble) (a : Asked) (old now : Spoken) → Responds {T = T} (Err e) a old now → f ≡ e → Responds {T = U} (Err f) a old now
responds_as T U e f a old now h same = subst (λ (t : Trouble). Responds {T = U} (Err t) a old now) (sym same) (responds_cast T U e a old now h)

tells_cast : (T U : Type 0) (e : Trouble) (old now : Spoken) → Tells {T = T} (Err e) old now → Tells {T = U} (Err e) old now
tells_cast T U OutOfMemory old now h = h
tells_cast T U Device old now h = h

pub tells_as : (T U : Type 0) (e f : Trouble) (old now : Spoken) → Tells {T = T} (Err e) old now → f ≡ e → Tells {T = U} (Err f) old now
tells_as T U e f old now h same = subst (λ (t : Trouble). Tells {T = U} (Err t) old now) (sym same) (tells_cast T U e old now h)

-- what the exit of a `?` returns, after what was told before it
pub tells_exit : (T U V : Type 0) (x : V) (result : Result U Trouble) (trouble : Trouble) (old mid now : Spoken) → IsErrAnd result (λ e. e ≡ trouble) → Tells (Ok x) old mid
    → Tells {T = T} (Err trouble) mid now → Tells result old now
tells_exit T U V x result trouble old mid now exit one two =
    let p = err_from_is_err_and result exit in
    subst (λ (r : Result U Trouble). Tells r old now) (sym p.1) (tells_as T U trouble p.0 old now (told_then {U = T} x (Err trouble) old mid now one two) p.2)

-- an event that has more members is one
pub event_first : (name : List ℕ) (tokens : List Token) → tokens ≡ event_head name → IsEventSoFar tokens
event_first name tokens e = (name, [], e ∙ sym (append-nil (event_head name)))

pub event_grows : (old new : Written) (more : List Token) → Adds old new more → IsEventSoFar old.tokens → IsEventSoFar new.tokens
event_grows old new more added is = (is.0, is.1 ++ more, added ∙ ap (λ (v : List Token). v ++ more) is.2 ∙ append_assoc (event_head is.0) is.1 more)

-- an event of a name
pub named_is : (name : List ℕ) (tokens : List Token) → IsNamedEvent name tokens → IsEventSoFar tokens
named_is name tokens is = (name, is.0, is.1)

pub named_first : (name : List ℕ) (tokens : List Token) → tokens ≡ event_head name → IsNamedEvent name tokens
named_first name tokens e = ([], e ∙ sym (append-nil (event_head name)))

pub named_grows : (name : List ℕ) (old new : Written) (more : List Token) → Adds old new more → IsNamedEvent name old.tokens → IsNamedEvent name new.tokens
named_grows name old new more added is = (is.0 ++ more, added ∙ ap (λ (v : List Token). v ++ more) is.1 ∙ append_assoc (event_head name) is.0 more)

-- one was sent, the last message so far
pub told_last : {T : Type 0} → (result : Result T Trouble) (name : List ℕ) (n : ℕ) (tokens : List Token) (old now : Spoken) → IsNamedEvent name tokens → Sends result (message_text n tokens) old now
    → TellsLast result name now
told_last (Ok x) name n tokens old now is sent = record {
  before = old;
  text = message_text n tokens;
  is_event = begins n (event_head name) is.0 tokens is.1;
  written = sent.0;
  counted = sent.1;
}
told_last (Err e) name n tokens old now is sent = tt
