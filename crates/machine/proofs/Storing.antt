-- A setter after the other: the store that the area holds after each. Assumes nothing.
use Rattle.std.specs.Prelude.{Option, Some, None}
use mathlib.Core.Path.{◌≡◌, refl, ◌∙◌, sym, ap, subst}
use mathlib.Core.List.{List}
use Prim.Native.Nat.{ℕ, ◌+◌, ◌*◌, ◌<◌}
use native.Mathlib.Omega.{arith}
use Rattle.meaning.specs.declared.Thread.{Thread}
use Rattle.meaning.specs.declared.Pass.{Pass}
use Rattle.meaning.specs.declared.Effect.{Effect}
use Rattle.meaning.specs.Store.{Store}
use Rattle.meaning.specs.Step.{apply, nothing}
use Rattle.store.specs.declared.Column.{Column}
use Rattle.store.specs.Layout.{p_at, lock_at, owner_at, threads_at, thread_words}
use Rattle.store.specs.Area.{Bytes, decode}
use Rattle.store.specs.Live.{Live, Within, BecomeFits, EntryFits, EntryBelow, PassBelow, Small, with_effect, put_word, put_become, put_entry, passed, put_thread}
use Rattle.store.proofs.Bytes.{bytes-put}
use Rattle.store.proofs.Tables.{lock_only, owner_only, live-become, live-entry, passed-below, decode-lock, decode-owner, live-thread, decode-thread}
use Rattle.machine.specs.Settling.{Stored}

-- at the start
pub stored-start : {a : List ℕ} {t n p : ℕ} → Live a t n p → Stored a a t n p (decode a)
stored-start live = record { decoded = refl; live = live; bytes = λ h. h }

bytes-become : (a : List ℕ) (k : ℕ) (w : Option ℕ) → Bytes a → Bytes (put_become a k w)
bytes-become a k None h = h
bytes-become a k (Some v) h = bytes-put a k v h

bytes-entry : (a : List ℕ) (at : Column) (e : Option (ℕ × ℕ)) → Bytes a → Bytes (put_entry a at e)
bytes-entry a at None h = h
bytes-entry a at (Some (k, v)) h = bytes-put a (at.from + at.stride * k) v h

bytes-thread : (a : List ℕ) (k : ℕ) (r : Thread) → Bytes a → Bytes (put_thread a k r)
bytes-thread a k r h =
    bytes-put a₆ (k + 6) r.h
    (bytes-put a₅ (k + 5) r.q
    (bytes-put a₄ (k + 4) r.p
    (bytes-put a₃ (k + 3) r.c (bytes-put a₂ (k + 2) r.n (bytes-put a₁ (k + 1) r.line (bytes-put a k r.op h))))))
  where
    a₁ : List ℕ
    a₁ = put_word a k r.op

    a₂ : List ℕ
    a₂ = put_word a₁ (k + 1) r.line

    a₃ : List ℕ
    a₃ = put_word a₂ (k + 2) r.n

    a₄ : List ℕ
    a₄ = put_word a₃ (k + 3) r.c

    a₅ : List ℕ
    a₅ = put_word a₄ (k + 4) r.p

    a₆ : List ℕ
    a₆ = put_word a₅ (k + 5) r.q

module _ {a b : List ℕ} {t n p : ℕ} {s : Store} (r : Stored a b t n p s) where
  pub stored-lock : {c : List ℕ} (w : Option ℕ) → c ≡ put_become b lock_at w → BecomeFits w → Stored a c t n p (with_effect s (lock_only w))
  stored-lock w e f =
      rw e
      (record {
        decoded = decode-lock r.live w f ∙ ap (λ x. with_effect x (lock_only w)) r.decoded;
        live = live-become r.live lock_at w (omega (arith, r.live.fits)) (omega arith) f;
        bytes = λ h. bytes-become b lock_at w (r.bytes h);
      })

  pub stored-owner : {c : List ℕ} (w : Option ℕ) → c ≡ put_become b owner_at w → BecomeFits w → Stored a c t n p (with_effect s (owner_only w))
  stored-owner w e f =
      rw e
      (record {
        decoded = decode-owner r.live w f ∙ ap (λ x. with_effect x (owner_only w)) r.decoded;
        live = live-become r.live owner_at w (omega (arith, r.live.fits)) (omega arith) f;
        bytes = λ h. bytes-become b owner_at w (r.bytes h);
      })

  -- a table, a column of the area's words, with what the law of that table says
  pub stored-entry :
      {c : List ℕ} (at : Column) (e : Option (ℕ × ℕ)) (x : Effect) → (c ≡ put_entry b at e) × EntryFits e →
      EntryBelow at.count e → ((k : ℕ) → k < at.count → Within b (at.from + at.stride * k) × (p_at < at.from + at.stride * k)) →
      (EntryFits e → decode (put_entry b at e) ≡ with_effect (decode b) x) → Stored a c t n p (with_effect s x)
  stored-entry at e x i h inside law =
      rw i.0
      (record {
        decoded = law i.1 ∙ ap (λ y. with_effect y x) r.decoded;
        live = live-entry r.live at e h inside i.1;
        bytes = λ y. bytes-entry b at e (r.bytes y);
      })

  -- the same of a pass of table f
  pub stored_pass :
      {c : List ℕ} (at : Column) (f : ℕ → ℕ) (e : Pass) (x : Effect) →
      (c ≡ put_entry b at (passed b at e)) × EntryFits (passed b at e) → PassBelow at.count f e →
      ((k : ℕ) → k < at.count → Within b (at.from + at.stride * k) × (p_at < at.from + at.stride * k)) →
      (EntryFits (passed b at e) → decode (put_entry b at (passed b at e)) ≡ with_effect (decode b) x) →
      Stored a c t n p (with_effect s x)
  stored_pass at f e x i h inside law =
      stored-entry at (passed b at e) x i (passed-below b at f e h) inside law

  -- what becomes of a lock or an owner is a word of the area as of the store
  pub locks-fit : (count : ℕ) (e : Pass) → PassBelow count s.locks e → PassBelow count (decode b).locks e
  locks-fit count e = subst (λ (x : Store). PassBelow count x.locks e) (sym r.decoded)

  pub own_fit : (count : ℕ) (e : Pass) → PassBelow count s.own e → PassBelow count (decode b).own e
  own_fit count e = subst (λ (x : Store). PassBelow count x.own e) (sym r.decoded)

  pub stored-thread :
      {c : List ℕ} (k : ℕ) (x : Thread) → c ≡ put_thread b (threads_at + thread_words * k) x → Small x → k < t →
      Stored a c t n p (apply s k x nothing)
  stored-thread k x e f h =
      rw e
      (record {
        decoded = decode-thread r.live k x f h ∙ ap (λ y. apply y k x nothing) r.decoded;
        live = live-thread r.live k x f h;
        bytes = λ y. bytes-thread b (threads_at + thread_words * k) x (r.bytes y);
      })

-- an effect after what came before
pub stored-with_effect :
    {a b c : List ℕ} {t n p : ℕ} {s : Store} (e : Effect) → Stored a b t n p s → Stored b c t n p (with_effect (decode b) e) →
    Stored a c t n p (with_effect s e)
stored-with_effect e r q =
    record {
      decoded = q.decoded ∙ ap (λ s. with_effect s e) r.decoded;
      live = q.live;
      bytes = λ h. q.bytes (r.bytes h);
    }
