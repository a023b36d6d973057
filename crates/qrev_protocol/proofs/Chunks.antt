-- The bytes of a chunk that go over to a body.
use Rattle.std.proofs.Common.{◌≡◌, ℕ, ◌+◌, ◌-◌, ◌≤◌, List, [], ◌++◌, take, drop, sym, ap, ◌∙◌, append_assoc, arith, subst}
use Rattle.std.specs.Prelude.{Option, Some, None}
use Rattle.std.specs.Io.KnownBytes.{Consumes, prepend_known}
use Rattle.std.proofs.lemmas.List.{append-nil, take-append-drop, take-take, drop-drop, drop-take}
use Rattle.qil_streams.proofs.DeviceLemmas.{Consumes-append}

-- the first bytes of what is pending, and the rest
pub front_of : (pending : List ℕ) (n : ℕ) (rest : Option (List ℕ)) → Consumes (prepend_known pending rest) (prepend_known (drop n pending) rest) (take n pending)
front_of pending n None = tt
front_of pending n (Some xs) = ap (λ v. v ++ xs) (sym (take-append-drop n pending)) ∙ append_assoc (take n pending) (drop n pending) xs

-- a part of a list, and a prefix of that part
pub front_of_part : (chunk : List ℕ) (start end n : ℕ) → n ≤ end - start → take n (drop start chunk) ≡ take n (take (end - start) (drop start chunk))
front_of_part chunk start end n h = sym (take-take n (end - start) (drop start chunk) h)

-- what goes over of a chunk, and what is left of it
pub moved : (chunk pending : List ℕ) (start end n : ℕ) → pending ≡ take (end - start) (drop start chunk) → n ≤ end - start
    → (take (start + n - start) (drop start chunk) ≡ take n pending) × (take (end - (start + n)) (drop (start + n) chunk) ≡ drop n pending)
moved chunk pending start end n e h =
    let count : start + n - start ≡ n = omega arith in
    let rest : n + (end - (start + n)) ≡ end - start = omega arith in (
      ap (λ k. take k (drop start chunk)) count ∙ front_of_part chunk start end n h ∙ ap (λ v. take n v) (sym e),
      ap (λ v. take (end - (start + n)) v) (sym (drop-drop n start chunk)) ∙ sym (drop-take n (end - (start + n)) (drop start chunk)) ∙ ap (λ k. drop n (take k (drop start chunk))) rest
          ∙ ap (λ v. drop n v) (sym e),
    )

-- a body with the first bytes of a chunk after it
pub body_more : (body new was pending left : List ℕ) (n : ℕ) (before known rest : Option (List ℕ)) → Consumes before (prepend_known was known) body
    → Consumes (prepend_known was known) (prepend_known pending rest) [] → new ≡ body ++ take n pending → left ≡ drop n pending → Consumes before (prepend_known left rest) new
body_more body new was pending left n before known rest taken filled e l =
    let so_far = Consumes-append before (prepend_known was known) (prepend_known pending rest) body [] taken filled in
    let all = Consumes-append before (prepend_known pending rest) (prepend_known (drop n pending) rest) (body ++ []) (take n pending) so_far (front_of pending n rest) in
    let new_is : (body ++ []) ++ take n pending ≡ new = ap (λ v. v ++ take n pending) (append-nil body) ∙ sym e in
    subst (λ v. Consumes before (prepend_known v rest) new) (sym l) (subst (λ v. Consumes before (prepend_known (drop n pending) rest) v) new_is all)
