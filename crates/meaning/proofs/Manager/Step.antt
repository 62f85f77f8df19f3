-- What one step does to what will become of the numbers and to what is owed (View): at a number's lock it is what the manager does,
-- and at every other line nothing.
-- Assumes nothing.
use mathlib.Core.Path.{◌≡◌, refl, sym, ap, ◌∙◌, subst}
use mathlib.Core.Bool.{true, false, not, cond, ◌&&◌, and-false, and-true}
use Prim.Native.Nat.{ℕ}
use lib.Dec.{eqb}
use borrow.Author.Tests.{eqb-true}
use Rattle.meaning.specs.declared.Kind.{Kind}
use Rattle.meaning.specs.declared.Kind.TheVariants.{Reader, Writer}
use Rattle.meaning.specs.declared.Thread.{Thread}
use Rattle.meaning.specs.declared.Effect.{Effect}
use Rattle.meaning.specs.Store.{Store}
use Rattle.meaning.specs.Holding.{unwritten, held, writer}
use Rattle.meaning.specs.Programs.{READ}
use Rattle.meaning.specs.Step.{apply}
use Rattle.meaning.proofs.Base.Words.{same, either_way, clash, upd_same, upd_other}
use Rattle.meaning.proofs.Base.Sets.{same_kind, kind_same, admits-lacks, joins_self, writer-alone, written_by, read_unwritten, admits-unwritten, quits-unwritten, writer-found}
use Rattle.meaning.proofs.Invariant.{kind, takes_n, takes_lock, holds_n, holds_lock, Inv}
use Rattle.meaning.proofs.Invariant.Keeping.{Moves, up, n_locked, Became, stayed, joined, left, entry-became, unheld_status, unheld_kept}
use Rattle.meaning.proofs.Invariant.Sharing.{fact, few}
use Rattle.meaning.proofs.Manager.View.{status, leaves, promised, future, owes, owing}

-- ---- what will become of a number, where nobody writes its lock and where it is held

pub future-unwritten : (s : Store) (k : ℕ) → unwritten (s.locks k) ≡ true → future s k ≡ status s k
future-unwritten s k u = rw u

future-written : (s : Store) (k v : ℕ) → held Writer v (s.locks k) ≡ true →
    future s k ≡ leaves (s.thread v).op (s.thread v).c (status s k)
future-written s k v h = let is = written_by v (s.locks k) h in rw (is.0, is.1)

-- a read leaves what there is
pub future-held : (s : Store) (k v : ℕ) → held (kind (s.thread v)) v (s.locks k) ≡ true →
    future s k ≡ leaves (s.thread v).op (s.thread v).c (status s k)
future-held s k v h =
    let r = s.thread v in
    either_way (eqb r.op READ)
    (λ x.
    let reads : held Reader v (s.locks k) ≡ true = rw x at h in
    future-unwritten s k (read_unwritten v (s.locks k) reads) ∙ rw (eqb-true r.op READ x))
    (λ x. future-written s k v (rw x at h))

module _ (s : Store) (I : Inv s) (t : ℕ) (r' : Thread) (e : Effect) (M : Moves s t (s.thread t) r' e) where
  -- t's record and its number; the store after the step
  abbrev r : Thread
  r = s.thread t

  abbrev n : ℕ
  n = (s.thread t).n

  abbrev s' : Store
  s' = apply s t r' e

  -- ---- who holds a number's lock, before and after

  held_before : (κ : Kind) (k : ℕ) → held κ t (s.locks k) ≡ holds_lock κ r k
  held_before κ k = (I.holds t).locks κ k

  held_after : (κ : Kind) (k : ℕ) → held κ t (s'.locks k) ≡ holds_lock κ r' k
  held_after κ k = M.holds.locks κ k

  became : (k : ℕ) → Became t (s.locks k) (s'.locks k)
  became = entry-became (λ κ k. takes_lock κ r k ≡ true) t e.locks s.locks M.guards.locks

  -- t's own number
  own_held : holds_n r ≡ true → held (kind r) t (s.locks n) ≡ true
  own_held x = held_before (kind r) n ∙ n_locked r x

  own_taken : holds_n r' ≡ true → held (kind r') t (s'.locks n) ≡ true
  own_taken y =
      let is : r'.n ≡ n = fact (holds_n r') _ y M.same_n in
      subst (λ (k : ℕ). held (kind r') t (s'.locks k) ≡ true) is (held_after (kind r') r'.n ∙ n_locked r' y)

  -- nobody writes where t comes to it
  came-unwritten : holds_n r ≡ false → holds_n r' ≡ true → unwritten (s.locks n) ≡ true
  came-unwritten x y = go (became n)
    where
      lacks : (κ : Kind) → held κ t (s.locks n) ≡ false
      lacks κ = held_before κ n ∙ rw x

      go : Became t (s.locks n) (s'.locks n) → unwritten (s.locks n) ≡ true
      go (stayed e) = clash (own_taken y) (rw e (lacks (kind r')))
      go (joined κ _ a _) = admits-unwritten κ t (s.locks n) a
      go (left κ h _) = clash h (lacks κ)

  -- and where it has gone from it
  gone_unwritten : holds_n r ≡ true → holds_n r' ≡ false → unwritten (s'.locks n) ≡ true
  gone_unwritten x y = go (became n)
    where
      go : Became t (s.locks n) (s'.locks n) → unwritten (s'.locks n) ≡ true
      go (stayed e) = clash (own_held x) (sym (ap (held (kind r) t) e) ∙ held_after (kind r) n ∙ rw y)
      go (joined κ _ a _) = clash (own_held x) (admits-lacks κ (kind r) t (s.locks n) a)
      go (left κ h e) = rw e (quits-unwritten κ t (s.locks n) h)

  -- ---- a number whose lock t holds neither before nor after

  future_unheld : (k : ℕ) → ((κ : Kind) → holds_lock κ r k ≡ false) → ((κ : Kind) → holds_lock κ r' k ≡ false) → future s' k ≡ future s k
  future_unheld k before after =
      either_way (unwritten (s.locks k))
      (λ u. future-unwritten s' k (rw word u) ∙ stays ∙ sym (future-unwritten s k u))
      (λ u.
      let writes = writer-found s.threads (few s I) (s.locks k) (I.locks k) u in
      let apart : t ≡ writer (s.locks k) → ⊥ =
      λ x. clash (subst (λ (v : ℕ). held Writer v (s.locks k) ≡ true) (sym x) writes) (held_before Writer k ∙ before Writer) in
      rw (word, u, upd_other s.thread t (writer (s.locks k)) r' apart, stays))
    where
      word : s'.locks k ≡ s.locks k
      word = go (became k)
        where
          go : Became t (s.locks k) (s'.locks k) → s'.locks k ≡ s.locks k
          go (stayed e) = e
          go (joined κ b a e) =
              clash (ap (held κ t) e ∙ joins_self κ κ t (s.locks k) b a ∙ kind_same κ) (held_after κ k ∙ after κ)
          go (left κ h _) = clash h (held_before κ k ∙ before κ)

      stays : status s' k ≡ status s k
      stays = unheld_status s t r e M.guards r' k (λ h. clash h (held_before Writer k ∙ before Writer))

  -- ---- t's own number

  -- t takes no lock where it has one
  takes-lacks : takes_n r ≡ true → holds_n r ≡ false
  takes-lacks x =
      either_way (holds_n r) (λ y. clash (up takes_n (λ r. not (holds_n r)) refl r (I.stands t) x) (rw y)) (λ y. y)

  -- so where it takes a number's lock, the number will be as it is
  pub takes-status : takes_n (s.thread t) ≡ true → future s (s.thread t).n ≡ status s (s.thread t).n
  takes-status x = future-unwritten s n (came-unwritten (takes-lacks x) (fact (takes_n r) _ x M.taken))

  after_held : holds_n r' ≡ true → future s' n ≡ promised r' (status s' n)
  after_held y =
      future-held s' n t (subst (λ (q : Thread). held (kind q) t (s'.locks n) ≡ true) (sym (upd_same s.thread t r')) (own_taken y))
      ∙ rw (upd_same s.thread t r', y)

  future_own : future s' n ≡ cond (takes_n r) (leaves r.op r.c (future s n)) (future s n)
  future_own =
      either_way (takes_n r) (λ x. rw (x, takes-status x) (after_held (fact (takes_n r) _ x M.taken) ∙ M.promise ∙ rw x))
      (λ x. rw x (either_way (holds_n r)
      (λ y.
      let before : future s n ≡ promised r (status s n) = future-held s n t (own_held y) ∙ rw y in
      either_way (holds_n r') (λ z. after_held z ∙ M.promise ∙ rw x (sym before))
      (λ z. future-unwritten s' n (gone_unwritten y z) ∙ rw z at M.promise ∙ rw x (sym before)))
      (λ y. either_way (holds_n r') (λ z. after_held z ∙ M.promise ∙ rw x (rw y (sym (future-unwritten s n (came-unwritten y z)))))
      (λ z. future_unheld n (λ κ. rw y) (λ κ. rw z)))))

  -- ---- any number, and what is owed

  pub future-step : (k : ℕ) → future (apply s t r' e) k ≡
      cond (takes_n (s.thread t) && eqb (s.thread t).n k) (leaves (s.thread t).op (s.thread t).c (future s k)) (future s k)
  future-step k =
      either_way (eqb n k)
      (λ x.
      subst (λ (k : ℕ). future s' k ≡ cond (takes_n r && eqb n k) (leaves r.op r.c (future s k)) (future s k))
      (eqb-true n k x) (rw (same n, and-true (takes_n r)) future_own))
      (λ x.
      let after : (κ : Kind) → holds_lock κ r' k ≡ false =
      λ κ. either_way (holds_n r')
      (λ y. let is : r'.n ≡ n = fact (holds_n r') _ y M.same_n in rw (is, x) (and-false (holds_n r' && same_kind κ (kind r')))) (λ y. rw y) in
      rw (x, and-false (takes_n r)) (future_unheld k (λ κ. rw x (and-false (holds_n r && same_kind κ (kind r)))) after))

  -- what is owed to others stays: who is owed a content holds its number's lock
  pub owing-others : (u : ℕ) → (t ≡ u → ⊥) → owing (apply s t r' e) u ≡ owing s u
  owing-others u apart =
      let q = s.thread u in
      rw (upd_other s.thread t u r' apart) (either_way (owes q)
      (λ x. either_way (eqb q.op READ)
      (λ y.
      let reads : holds_n q ≡ true = up (λ r. owes r && eqb r.op READ) holds_n refl q (I.stands u) (rw (x, y)) in
      let mine : held (kind q) u (s.locks q.n) ≡ true = (I.holds u).locks (kind q) q.n ∙ n_locked q reads in
      rw (unheld_kept s t r e M.guards r' q.n (λ h. apart (writer-alone (kind q) t u (s.locks q.n) h mine))))
      (λ y. rw (x, y))) (λ x. rw x))
