-- What was taken, piece after piece, and relations one after another.
use Rattle.cdb_form.proofs.Words.{Consumes, Feed, FromTo, IsAtEnd, Keeps, List, LosesAtMost, [], append-nil, append_assoc, length, subst, sym, take, ℕ, ◌++◌, ◌≡◌, ◌≤◌}

pub consumes_then : (old mid new : Feed) (xs ys : List ℕ) → Consumes old mid xs → Consumes mid new ys → Consumes old new (xs ++ ys)
consumes_then old mid new xs ys a b = record {
  known = λ k. b.known (a.known k);
  back = λ k whole rest m. subst (old.may whole) (sym (append_assoc xs ys rest)) (a.back k whole (ys ++ rest) (b.back (a.known k) whole rest m));
  stays = λ f. b.stays (a.stays f);
}

pub consumes_kept : (old mid new : Feed) (xs : List ℕ) → Consumes old mid xs → Keeps mid new → Consumes old new xs
consumes_kept old mid new xs a b = record {
  known = λ k. b.known (a.known k);
  back = λ k whole rest m. a.back k whole rest (b.back (a.known k) whole rest m);
  stays = λ f. b.stays (a.stays f);
}

pub consumes_no_more : (old mid new : Feed) (xs ys : List ℕ) (n : ℕ) → n ≡ 0 → Consumes old mid xs → Consumes mid new (take n ys) → Consumes old new xs
consumes_no_more old mid new xs ys n none a b = consumes_kept old mid new xs a (subst (λ k. Consumes mid new (take k ys)) none b)

pub nothing_taken : (feed : Feed) → Consumes feed feed []
nothing_taken feed = record { known = λ k. k; back = λ k whole rest m. m; stays = λ f. f }

pub loses_these : (old new : Feed) (n : ℕ) (xs : List ℕ) → Consumes old new xs → length xs ≤ n → LosesAtMost old new n
loses_these old new n xs a few = record { lost = xs; taken = a; few = few }

-- one relation after another
pub from_then : (a b c : Feed) (P Q : List ℕ → List ℕ → Type 0) → FromTo a b P → FromTo b c Q
    → FromTo a c (λ text rest. (mid : List ℕ) × P text mid × Q mid rest)
from_then a b c P Q p q = record {
  known = λ k. q.known (p.known k);
  back = λ k whole rest m.
      let s = q.back (p.known k) whole rest m in
      let t = p.back k whole s.0 s.1 in
      (t.0, t.1, (s.0, t.2, s.2));
}

-- two relations of one call: all bytes determine which were left before, so both speak of the same text
pub from_both : (a b : Feed) (P Q : List ℕ → List ℕ → Type 0) → ((whole x y : List ℕ) → a.may whole x → a.may whole y → x ≡ y)
    → FromTo a b P → FromTo a b Q → FromTo a b (λ text rest. P text rest × Q text rest)
from_both a b P Q one p q = record {
  known = p.known;
  back = λ k whole rest m.
      let s = p.back k whole rest m in
      let t = q.back k whole rest m in
      (s.0, s.1, (s.2, subst (λ x. Q x rest) (one whole t.0 s.0 t.1 s.1) t.2));
}

-- one relation says less than another
pub from_weaker : (old new : Feed) (P Q : List ℕ → List ℕ → Type 0) → FromTo old new P → ((text rest : List ℕ) → P text rest → Q text rest) → FromTo old new Q
from_weaker old new P Q f h = record { known = f.known; back = λ k whole rest m. let t = f.back k whole rest m in (t.0, t.1, h t.0 rest t.2) }

-- a relation after bytes that were taken
pub from_behind : (old mid new : Feed) (bytes : List ℕ) (P : List ℕ → List ℕ → Type 0) → Consumes old mid bytes → FromTo mid new (λ text rest. P (bytes ++ text) rest) → FromTo old new P
from_behind old mid new bytes P c f = record {
  known = λ k. f.known (c.known k);
  back = λ k whole rest m.
      let t = f.back (c.known k) whole rest m in
      (bytes ++ t.0, c.back k whole t.0 t.1, t.2);
}

-- nothing was taken
pub from_kept : (old new : Feed) (P : List ℕ → List ℕ → Type 0) → Keeps old new → ((text : List ℕ) → P text text) → FromTo old new P
from_kept old new P c h = record { known = c.known; back = λ k whole rest m. (rest, c.back k whole rest m, h rest) }

-- what holds of the bytes taken and of whatever is left
pub from_taken : (old new : Feed) (bytes : List ℕ) (P : List ℕ → List ℕ → Type 0) → Consumes old new bytes → ((rest : List ℕ) → P (bytes ++ rest) rest) → FromTo old new P
from_taken old new bytes P c h = record { known = c.known; back = λ k whole rest m. (bytes ++ rest, c.back k whole rest m, h rest) }

-- and of the bytes taken alone, if no bytes are left
pub from_all : (old new : Feed) (bytes : List ℕ) (P : List ℕ → List ℕ → Type 0) → Consumes old new bytes → IsAtEnd new → P bytes [] → FromTo old new P
from_all old new bytes P c end h = record {
  known = c.known;
  back = λ k whole rest m.
      let none : rest ≡ [] = end (c.known k) whole rest m in
      (bytes ++ rest, c.back k whole rest m, subst (λ r. P (bytes ++ r) r) (sym none) (subst (λ t. P t []) (sym (append-nil bytes)) h));
}
