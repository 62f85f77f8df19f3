-- From stores to areas of bytes. Where an area is well formed and its elements are bytes, a call answers what the call on its store answers,
-- and the area after it is such a one again and holds what that call leaves (`after_call`); a schedule likewise (`run-decoded` and the laws beside
-- it). What is proved of stores is thereby proved of areas.
-- Assumes nothing.
use mathlib.Core.Path.{◌≡◌, refl, sym, ◌∙◌, ap, subst}
use mathlib.Core.Bool.{◌&&◌}
use mathlib.Core.List.{List, [], ◌∷◌}
use Prim.Native.Nat.{ℕ}
use lib.Dec.{eqb}
use Rattle.meaning.specs.Numbers.{WENT, FINISHED}
use Rattle.meaning.specs.Store.{Store}
use Rattle.meaning.specs.Call.{Reply, Outcome, refused, left, reply, Entry, begin, step, calling, call_store}
use Rattle.meaning.specs.Schedule.{Words, run, replies, Grown as GrownStore, formatted, called, order, begun_by, finished_by, placing, starting, finishing, Operation, Answered, operation, emit, takes_last}
use Rattle.meaning.proofs.Invariant.{Inv}
use Rattle.meaning.proofs.Progress.{inv-fresh, inv-grown}
use Rattle.store.specs.Area.{encode, decode}
use Rattle.store.specs.Calls.{call_area, Grown}
use Rattle.store.proofs.Sound.{Sound}
use Rattle.store.proofs.Codec.{InRange}
use Rattle.store.proofs.Range.{ranged-sound, ranged-in_range, encode-decoded, sound-ranged, Good, good-ranged, encode-good, formatted-good, formatted-fresh}
use Rattle.demands.specs.History.{AllWords, FreshStore, in-limits}
use Rattle.demands.proofs.RangeKept.{LeavesRanged, calling-ranged}

-- ---- a call

-- what is sound and in range is kept by a call, of any store
pub call-sound : (s : Store) → Sound s → InRange s → (e : Entry) → Words e →
    Sound (call_store s e).after × InRange (call_store s e).after
call-sound s S I e w = go (calling s e) (calling-ranged s (sound-ranged s S I) e w)
  where
    go : (o : Outcome) → LeavesRanged o → Sound (reply (λ s. s) s o).after × InRange (reply (λ s. s) s o).after
    go (refused number) R = (S, I)
    go (left number value s') R = (ranged-sound s' R, ranged-in_range s' R)

-- the reply on an area answers what the reply on a store answers, and leaves a good area that holds what the other leaves
pub record SameReply (x : Reply (List ℕ)) (y : Reply Store) : Type 0 where
  pub number : x.number ≡ y.number
  pub value : x.value ≡ y.value
  pub decoded : decode x.after ≡ y.after
  pub good : Good x.after

pub after_call : (a : List ℕ) → Good a → (e : Entry) → Words e → SameReply (call_area a e) (call_store (decode a) e)
after_call a g e w = rw g.formed (go (calling (decode a) e) (calling-ranged (decode a) (good-ranged a g) e w))
  where
    go : (o : Outcome) → LeavesRanged o → SameReply (reply encode a o) (reply (λ s. s) (decode a) o)
    go (refused number) R = record { number = refl; value = refl; decoded = refl; good = g }
    go (left number value s) R = record { number = refl; value = refl; decoded = encode-decoded s R; good = encode-good s R }

-- ---- a schedule

pub run-good : (a : List ℕ) → Good a → (w : List Entry) → AllWords w → Good (run call_area a w)
run-good a g [] x = g
run-good a g (e ∷ w) x = run-good (call_area a e).after (after_call a g e x.0).good w x.1

pub run-decoded : (a : List ℕ) → Good a → (w : List Entry) → AllWords w → decode (run call_area a w) ≡ run call_store (decode a) w
run-decoded a g [] x = refl
run-decoded a g (e ∷ w) x =
    let m = after_call a g e x.0 in
    run-decoded (call_area a e).after m.good w x.1 ∙ ap (λ (s : Store). run call_store s w) m.decoded

pub replies-decoded : (a : List ℕ) → Good a → (w : List Entry) → AllWords w → replies call_area a w ≡ replies call_store (decode a) w
replies-decoded a g [] x = refl
replies-decoded a g (e ∷ w) x =
    let m = after_call a g e x.0 in
    let rest = replies-decoded (call_area a e).after m.good w x.1 ∙ ap (λ (s : Store). replies call_store s w) m.decoded in
    λ i. (m.number i, m.value i) ∷ rest i

-- the operations in the order of their last locks
pub order-decoded : (a : List ℕ) → Good a → (w : List Entry) → AllWords w →
    order call_area decode a w ≡ order call_store (λ s. s) (decode a) w
order-decoded a g [] x = refl
order-decoded a g (e ∷ w) x =
    let m = after_call a g e x.0 in
    go e m
    (order-decoded (call_area a e).after m.good w x.1 ∙ ap (λ (s : Store). order call_store (λ s. s) s w) m.decoded)
  where
    go : (e : Entry) → SameReply (call_area a e) (call_store (decode a) e) → {l l' : List Operation} → l ≡ l' →
        placing call_area decode a e l ≡ placing call_store (λ s. s) (decode a) e l'
    go (begin u op n c) m rest = rest
    go (step u) m rest = λ i.
        emit (eqb (m.number i) WENT && takes_last (decode a) ((decode a).thread u))
        (operation u ((decode a).thread u).op ((decode a).thread u).n ((decode a).thread u).c) (rest i)

-- what thread t has begun
pub begun_by-decoded : (a : List ℕ) → Good a → (t : ℕ) (w : List Entry) → AllWords w →
    begun_by call_area decode a t w ≡ begun_by call_store (λ s. s) (decode a) t w
begun_by-decoded a g t [] x = refl
begun_by-decoded a g t (e ∷ w) x =
    let m = after_call a g e x.0 in
    go e m
    (begun_by-decoded (call_area a e).after m.good t w x.1 ∙ ap (λ (s : Store). begun_by call_store (λ s. s) s t w) m.decoded)
  where
    go : (e : Entry) → SameReply (call_area a e) (call_store (decode a) e) → {l l' : List Operation} → l ≡ l' →
        starting call_area decode a t e l ≡ starting call_store (λ s. s) (decode a) t e l'
    go (begin u op n c) m rest = λ i. emit (eqb (m.number i) WENT && eqb u t) (operation u op n c) (rest i)
    go (step u) m rest = rest

-- what thread t has finished, with its answers
pub finished_by-decoded : (a : List ℕ) → Good a → (t : ℕ) (w : List Entry) → AllWords w →
    finished_by call_area decode a t w ≡ finished_by call_store (λ s. s) (decode a) t w
finished_by-decoded a g t [] x = refl
finished_by-decoded a g t (e ∷ w) x =
    let m = after_call a g e x.0 in
    go e m
    (finished_by-decoded (call_area a e).after m.good t w x.1
    ∙ ap (λ (s : Store). finished_by call_store (λ s. s) s t w) m.decoded)
  where
    go : (e : Entry) → SameReply (call_area a e) (call_store (decode a) e) → {l l' : List Answered} → l ≡ l' →
        finishing call_area decode a t e l ≡ finishing call_store (λ s. s) (decode a) t e l'
    go (begin u op n c) m rest = rest
    go (step u) m rest = λ i.
        emit (eqb (m.number i) FINISHED && eqb u t) (record { op = ((decode a).thread u).op; value = m.value i }) (rest i)

-- ---- grown areas

-- what is known of a grown area
pub record Lives (a : List ℕ) : Type 0 where
  pub good : Good a
  pub grown : GrownStore call_store FreshStore (decode a)

pub grown-lives : (a : List ℕ) → Grown a → Lives a
grown-lives a (formatted f) =
    record {
      good = formatted-good a f;
      grown = formatted-fresh a f (GrownStore call_store FreshStore) (λ t n p d l. formatted (in-limits t n p d l));
    }
grown-lives a (called {s = b} g e w) =
    let l = grown-lives b g in
    let m = after_call b l.good e w in
    record { good = m.good; grown = subst (GrownStore call_store FreshStore) (sym m.decoded) (called l.grown e w) }

pub grown-good : (a : List ℕ) → Grown a → Good a
grown-good a g = (grown-lives a g).good

pub grown-inv : (a : List ℕ) → Grown a → Inv (decode a)
grown-inv a g = inv-grown FreshStore starts (grown-lives a g).grown
  where
    starts : (s : Store) → FreshStore s → Inv s
    starts s (in-limits t n p d l) = inv-fresh t n p d l

-- a schedule grows a grown area on
pub run-grown : (a : List ℕ) → Grown a → (w : List Entry) → AllWords w → Grown (run call_area a w)
run-grown a g [] x = g
run-grown a g (e ∷ w) x = run-grown (call_area a e).after (called g e x.0) w x.1
