pub mod EditFaults
