-- Laws of the manager itself, over lists of operations: what it has of a number after an operation and after a list, and what it answers.
-- Nothing here speaks of a store. Assumes nothing.
use mathlib.Core.Path.{◌≡◌, refl, ap, ◌∙◌}
use mathlib.Core.Bool.{Bool, true, false, not, cond, ◌&&◌}
use mathlib.Core.List.{List, [], ◌∷◌, ◌++◌}
use Prim.Native.Nat.{ℕ}
use lib.Dec.{eqb}
use Rattle.meaning.specs.Programs.{WRITE, READ, LEVEL}
use Rattle.meaning.specs.Manager.{Manager, ebm_read}
use Rattle.meaning.specs.Schedule.{Operation, operation, emit, obey, obey_all, managed}
use Rattle.meaning.proofs.Base.Words.{either_way}
use Rattle.meaning.proofs.Manager.View.{asked, leaves}

-- an operation changes its own number, and no other
pub obey-asked : (o : Operation) (m : Manager) (k : ℕ) →
    asked k (obey o m) ≡ cond (eqb o.number k) (leaves o.op o.word (asked k m)) (asked k m)
obey-asked o m k =
    either_way (eqb o.number k)
    (λ x. either_way (eqb o.op LEVEL) (λ y. rw (x, y)) (λ y. either_way (eqb o.op WRITE) (λ z. rw (y, z, x))
    (λ z. either_way (eqb o.op READ) (λ w. rw (x, y, z, w)) (λ w. rw (y, z, w, x)))))
    (λ x. either_way (eqb o.op LEVEL) (λ y. rw (x, y)) (λ y. either_way (eqb o.op WRITE) (λ z. rw (y, z, x))
    (λ z. either_way (eqb o.op READ) (λ w. rw (x, y, z, w)) (λ w. rw (y, z, w, x)))))

-- so what it reads
pub obey-reads : (o : Operation) (m : Manager) (k : ℕ) →
    ebm_read k (obey o m) ≡ (cond (eqb o.number k) (leaves o.op o.word (asked k m)) (asked k m)).content
obey-reads o m k = ap (λ x. x.content) (obey-asked o m k)

-- the same of an operation as begin stores it, which is no levelling
pub operation-asked : (t op n c : ℕ) → eqb op LEVEL ≡ false → (m : Manager) (k : ℕ) →
    asked k (obey (operation t op n c) m) ≡ cond (eqb n k) (leaves op c (asked k m)) (asked k m)
operation-asked t op n c other m k =
    obey-asked (operation t op n c) m k ∙ either_way (eqb op WRITE) (λ x. rw (other, x)) (λ x. rw (other, x))

-- a levelling changes nothing
pub level_obeys : (m : Manager) (b : Bool) (o : Operation) → eqb o.op LEVEL ≡ true → obey_all m (emit b o []) ≡ m
level_obeys m true o x = rw x
level_obeys m false o x = refl

-- a list is obeyed part by part
pub obey_all-append : (m : Manager) (l l' : List Operation) → obey_all m (l ++ l') ≡ obey_all (obey_all m l) l'
obey_all-append m [] l' = refl
obey_all-append m (o ∷ l) l' = obey_all-append (obey o m) l l'

-- an operation that is another thread's, or a levelling, gives thread u no answer
pub managed-passes : (m : Manager) (u : ℕ) (o : Operation) (b : Bool) (l : List Operation) →
    (eqb o.thread u && not (eqb o.op LEVEL)) ≡ false → managed m u (emit b o l) ≡ managed (obey_all m (emit b o [])) u l
managed-passes m u o true l other = rw other
managed-passes m u o false l other = refl
