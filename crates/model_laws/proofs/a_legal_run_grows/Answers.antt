use Rattle.model_laws.proofs.Grow.{begins_legally, causes_grow, legal_grows, stands_grow}
use Rattle.model_laws.proofs.a_legal_run_grows.Goals as goal

pub returns-clause-begins : goal.returns-clause-begins
returns-clause-begins c = begins_legally

pub returns-clause-legal : goal.returns-clause-legal
returns-clause-legal c = legal_grows

pub returns-clause-stands : goal.returns-clause-stands
returns-clause-stands c = stands_grow

pub returns-clause-causes : goal.returns-clause-causes
returns-clause-causes c = causes_grow
