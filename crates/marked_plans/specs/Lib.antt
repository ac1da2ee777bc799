pub mod MarkedPlans
