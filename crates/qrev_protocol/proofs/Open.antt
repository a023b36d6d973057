-- Each call leaves an open object or an open array, and the last one a text that is JSON.
use Rattle.std.proofs.Common.{◌≡◌, ℕ, List, [], ◌∷◌, ◌++◌, refl, sym, ap, ◌∙◌, subst}
use Rattle.std.specs.List.{AllByRecursion, flat_map}
use Rattle.std.proofs.Math.Logic.{∥∥₁_elim, ∥∥₁_map, ∥∥₁_prop}
use Rattle.std.proofs.lemmas.Grind.{flat_map-append}
use Rattle.std.proofs.lemmas.List.{append_assoc, append-nil}
use Rattle.json.specs.Token.{Token, begin_object, end_object, begin_array, end_array, key}
use Rattle.json.specs.Json.{Json, object, array, Items, no_items, item, Members, no_members, member}
use Rattle.json.specs.Tree.{json_tokens, items_tokens, members_tokens, HasNumbers, ItemsHaveNumbers, MembersHaveNumbers}
use Rattle.json.specs.Print.{print}
use Rattle.qrev_protocol.specs.Open.{IsJson, Member, member_tokens, IsOpenObject, IsOpenArray, LeadsToWhole, LeadsToMember}

abbrev listed_members : List Member → Members
listed_members [] = no_members
listed_members (m ∷ ms) = member m.0 m.1 (listed_members ms)

abbrev listed_items : List Json → Items
listed_items [] = no_items
listed_items (j ∷ js) = item j (listed_items js)

members_end : (ms : List Member) → members_tokens (listed_members ms) ≡ flat_map member_tokens ms ++ end_object ∷ []
members_end [] = refl
members_end (m ∷ ms) = ap (λ ts. key m.0 ∷ (json_tokens m.1 ++ ts)) (members_end ms) ∙ ap (λ ts. key m.0 ∷ ts) (sym (append_assoc (json_tokens m.1) (flat_map member_tokens ms) (end_object ∷ [])))

items_end : (js : List Json) → items_tokens (listed_items js) ≡ flat_map json_tokens js ++ end_array ∷ []
items_end [] = refl
items_end (j ∷ js) = ap (λ ts. json_tokens j ++ ts) (items_end js) ∙ sym (append_assoc (json_tokens j) (flat_map json_tokens js) (end_array ∷ []))

members_numbers : (ms : List Member) → AllByRecursion (λ m. HasNumbers m.1) ms → MembersHaveNumbers (listed_members ms)
members_numbers [] all = tt
members_numbers (m ∷ ms) all = (all.0, members_numbers ms all.1)

items_numbers : (js : List Json) → AllByRecursion HasNumbers js → ItemsHaveNumbers (listed_items js)
items_numbers [] all = tt
items_numbers (j ∷ js) all = (all.0, items_numbers js all.1)

one_more : {X : Type 0} (P : X → Type 0) (xs : List X) (x : X) → AllByRecursion P xs → P x → AllByRecursion P (xs ++ x ∷ [])
one_more P [] x all it = (it, tt)
one_more P (y ∷ ys) x all it = (all.0, one_more P ys x all.1 it)

-- behind the front the last element adds its own tokens
grown : {X : Type 0} (f : X → List Token) (before : List Token) (b : Token) (xs : List X) (x : X) (tokens : List Token) → tokens ≡ before ++ b ∷ flat_map f xs → tokens ++ f x ≡ before ++ b ∷ flat_map f (xs ++ x ∷ [])
grown f before b xs x tokens e =
    ap (λ ts. ts ++ f x) e ∙ append_assoc before (b ∷ flat_map f xs) (f x) ∙ ap (λ ts. before ++ b ∷ ts) (ap (λ ts. flat_map f xs ++ ts) (sym (append-nil (f x))) ∙ sym (flat_map-append f xs (x ∷ [])))

pub member_added : (Leads : List Token → Type 0) (old new : List Token) (name : List ℕ) (j : Json) → IsOpenObject Leads old → HasNumbers j → new ≡ old ++ key name ∷ json_tokens j → IsOpenObject Leads new
member_added Leads old new name j opened numbers e =
    ∥∥₁_map opened (λ o. (o.0, o.1 ++ (name, j) ∷ [], o.2, one_more (λ m. HasNumbers m.1) o.1 (name, j) o.3 numbers, e ∙ grown member_tokens o.0 begin_object o.1 (name, j) old o.4))

pub item_added : (Leads : List Token → Type 0) (old new : List Token) (j : Json) → IsOpenArray Leads old → HasNumbers j → new ≡ old ++ json_tokens j → IsOpenArray Leads new
item_added Leads old new j opened numbers e =
    ∥∥₁_map opened (λ o. (o.0, o.1 ++ j ∷ [], o.2, one_more HasNumbers o.1 j o.3 numbers, e ∙ grown json_tokens o.0 begin_array o.1 j old o.4))

pub object_begun : (Leads : List Token → Type 0) (before new : List Token) → Leads before → new ≡ before ++ begin_object ∷ [] → IsOpenObject Leads new
object_begun Leads before new leads e = ∣ (before, [], leads, tt, e) ∣₁

pub array_begun : (Leads : List Token → Type 0) (before new : List Token) → Leads before → new ≡ before ++ begin_array ∷ [] → IsOpenArray Leads new
array_begun Leads before new leads e = ∣ (before, [], leads, tt, e) ∣₁

-- two tokens, written one after the other
pub joined : (old mid new : List Token) (a b : Token) → mid ≡ old ++ a ∷ [] → new ≡ mid ++ b ∷ [] → new ≡ old ++ a ∷ b ∷ []
joined old mid new a b first second = second ∙ ap (λ ts. ts ++ b ∷ []) first ∙ append_assoc old (a ∷ []) (b ∷ [])

-- a member that is an object or an array begins with its name
pub named : (Leads : List Token → Type 0) (old : List Token) (name : List ℕ) → IsOpenObject Leads old → LeadsToMember Leads (old ++ key name ∷ [])
named Leads old name opened = (old, name, opened, refl)

-- an object that is open, and is ended, is one value behind what stands before it
ended_object : (before : List Token) (ms : List Member) (old new : List Token) → old ≡ before ++ begin_object ∷ flat_map member_tokens ms → new ≡ old ++ end_object ∷ [] → new ≡ before ++ json_tokens (object (listed_members ms))
ended_object before ms old new is e =
    e ∙ ap (λ ts. ts ++ end_object ∷ []) is ∙ append_assoc before (begin_object ∷ flat_map member_tokens ms) (end_object ∷ []) ∙ ap (λ ts. before ++ begin_object ∷ ts) (sym (members_end ms))

ended_array : (before : List Token) (js : List Json) (old new : List Token) → old ≡ before ++ begin_array ∷ flat_map json_tokens js → new ≡ old ++ end_array ∷ [] → new ≡ before ++ json_tokens (array (listed_items js))
ended_array before js old new is e =
    e ∙ ap (λ ts. ts ++ end_array ∷ []) is ∙ append_assoc before (begin_array ∷ flat_map json_tokens js) (end_array ∷ []) ∙ ap (λ ts. before ++ begin_array ∷ ts) (sym (items_end js))

-- a value behind the name of a member is that member
member_closed : (Leads : List Token → Type 0) (before new : List Token) (j : Json) → LeadsToMember Leads before → HasNumbers j → new ≡ before ++ json_tokens j → IsOpenObject Leads new
member_closed Leads before new j leads numbers e =
    member_added Leads leads.0 new leads.1 j leads.2 numbers (e ∙ ap (λ ts. ts ++ json_tokens j) leads.3 ∙ append_assoc leads.0 (key leads.1 ∷ []) (json_tokens j))

pub object_ended : (Leads : List Token → Type 0) (old new : List Token) → IsOpenObject (LeadsToMember Leads) old → new ≡ old ++ end_object ∷ [] → IsOpenObject Leads new
object_ended Leads old new opened e =
    ∥∥₁_elim opened ∥∥₁_prop (λ o. member_closed Leads o.0 new (object (listed_members o.1)) o.2 (members_numbers o.1 o.3) (ended_object o.0 o.1 old new o.4 e))

pub item_ended : (Leads : List Token → Type 0) (old new : List Token) → IsOpenObject (IsOpenArray Leads) old → new ≡ old ++ end_object ∷ [] → IsOpenArray Leads new
item_ended Leads old new opened e =
    ∥∥₁_elim opened ∥∥₁_prop (λ o. item_added Leads o.0 new (object (listed_members o.1)) o.2 (members_numbers o.1 o.3) (ended_object o.0 o.1 old new o.4 e))

pub array_ended : (Leads : List Token → Type 0) (old new : List Token) → IsOpenArray (LeadsToMember Leads) old → new ≡ old ++ end_array ∷ [] → IsOpenObject Leads new
array_ended Leads old new opened e =
    ∥∥₁_elim opened ∥∥₁_prop (λ o. member_closed Leads o.0 new (array (listed_items o.1)) o.2 (items_numbers o.1 o.3) (ended_array o.0 o.1 old new o.4 e))

-- an open object that stands in no other value is JSON once it is ended
pub whole_ended : (old : List Token) (text : List ℕ) → IsOpenObject LeadsToWhole old → text ≡ print (old ++ end_object ∷ []) → IsJson text
whole_ended old text opened e =
    ∥∥₁_map opened (λ o. (object (listed_members o.1), members_numbers o.1 o.3, e ∙ ap print (ended_object o.0 o.1 old (old ++ end_object ∷ []) o.4 refl ∙ ap (λ ts. ts ++ json_tokens (object (listed_members o.1))) o.2)))
